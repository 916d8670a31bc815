-- The lines of a plan and of a replay's answer, as a memory holds them.
use Rattle.std.specs.Prelude.{List, [], ◌∷◌, ℕ, ◌+◌, ◌*◌}
use Rattle.definitions.specs.Lists.{bytes, nth}
use Rattle.definitions.specs.Limits.{Limits}
use Rattle.definitions.specs.Text.{line_text}
use Rattle.definitions.specs.Plan.{replica_numbers}
use Rattle.definitions.specs.Replay.{first_finish, first_processor, result_line}
use Rattle.definitions.specs.Claims.{field_length}
use Rattle.heads.specs.Layout.{lower_at, upper_at, row_cells, row_at}
use Rattle.plans.specs.Loading.{line_in}
use Rattle.rounds.specs.Replaying.{outcomes_in}

-- The numbers of a plan's head.
abbrev pub head_in : ℕ → List ℕ → List ℕ
head_in capacity mem = nth mem 0 ∷ nth mem 1 ∷ nth mem 3 ∷ nth mem (lower_at capacity) ∷ nth mem (upper_at capacity) ∷ []

-- What a head and a T line take at most, in bytes.
abbrev pub head_bytes : Limits → ℕ
head_bytes l = 5 + (l.powers + 1) * 5

abbrev pub row_bytes : Limits → ℕ
row_bytes l = 2 + (l.powers + 1) * row_cells

-- The T line of row k.
unfoldable pub row_line : Limits → ℕ → ℕ → List ℕ → List ℕ
row_line l capacity k mem = let n = line_in (row_at capacity k) mem in line_text l (bytes "T,") (n.task ∷ replica_numbers n.replicas)

-- What an R line, the L line and the replay's answer take at most, in bytes.
abbrev pub result_bytes : Limits → ℕ
result_bytes l = 2 + field_length l l.tasks + field_length l l.processors + (l.powers + 1)

abbrev pub end_bytes : Limits → ℕ
end_bytes l = 2 + (l.powers + 1)

abbrev pub replay_bytes : Limits → ℕ
replay_bytes l = l.tasks * result_bytes l + end_bytes l

-- The R line of task t.
unfoldable pub task_line : Limits → ℕ → ℕ → List ℕ → List ℕ
task_line l capacity t mem =
    let x = first_finish t (outcomes_in capacity mem) in
    result_line l t x (first_processor t x (outcomes_in capacity mem))
