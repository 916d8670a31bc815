-- The lines of a plan in a memory, and the times in its cells.
use Rattle.std.specs.Prelude.{◌≡◌, ◌⊎◌, List, [], ◌∷◌, ◌++◌, Bool, not, ◌||◌, ℕ, zero, suc, ◌+◌, ◌-◌, ◌<◌, ◌≤◌, ltb}
use Rattle.definitions.specs.Lists.{nth}
use Rattle.definitions.specs.Limits.{Limits}
use Rattle.definitions.specs.Job.{outside}
use Rattle.definitions.specs.Plan.{Replica, Line}
use Rattle.definitions.specs.Times.{Outcome}
use Rattle.ticks.specs.Cells.{time_in, Small}
use Rattle.heads.specs.Layout.{line_at, row_cells, row_at, processor_at, early_at, late_at, time_at, replica_end}
use Rattle.jobs.specs.Held.{JobHeld}

-- The cells of a line of the job in a memory.
abbrev pub line_cells : List ℕ → ℕ
line_cells mem = replica_end 0 (nth mem 3)

-- The place after the line at a.
abbrev pub row_end : ℕ → ℕ
row_end a = a + row_cells

-- The first c replicas of the line at a, newest first, with their early or their late times.
unfoldable pub row_outcomes : Bool → ℕ → ℕ → List ℕ → List Outcome
row_outcomes late a zero mem = []
row_outcomes late a (suc c) mem =
    record { task = nth mem a; processor = nth mem (processor_at a c); time = time_in (nth mem (time_at late a c)) }
    ∷ row_outcomes late a c mem

-- The replicas of the first k lines, w in each, newest first.
unfoldable pub placed_in : ℕ → Bool → ℕ → ℕ → List ℕ → List Outcome
placed_in capacity late w zero mem = []
placed_in capacity late w (suc k) mem = row_outcomes late (row_at capacity k) w mem ++ placed_in capacity late w k mem

-- Replica c of the line at a, as a plan's line has it.
abbrev pub replica_in : ℕ → ℕ → List ℕ → Replica
replica_in a c mem = record { processor = nth mem (processor_at a c); early = nth mem (early_at a c); late = nth mem (late_at a c) }

-- It is on no processor of the job, or has a tick outside its range.
abbrev pub replica_strays : Limits → ℕ → ℕ → List ℕ → Bool
replica_strays l a c mem =
    let r = replica_in a c mem in not (ltb r.processor (nth mem 1)) || outside 0 l.tick r.early || outside 0 l.tick r.late

-- The first c replicas of the line at a, as a plan's line has them.
unfoldable pub row_replicas : ℕ → ℕ → List ℕ → List Replica
row_replicas a zero mem = []
row_replicas a (suc c) mem = row_replicas a c mem ++ replica_in a c mem ∷ []

-- The first k lines of a plan, w replicas in each.
unfoldable pub lines_in : ℕ → ℕ → ℕ → List ℕ → List Line
lines_in capacity w zero mem = []
lines_in capacity w (suc k) mem = lines_in capacity w k mem ++ record { task = nth mem (row_at capacity k); replicas = row_replicas (row_at capacity k) w mem } ∷ []

-- The line of a task that is placed.
abbrev pub row_of : ℕ → ℕ → List ℕ → ℕ
row_of capacity t mem = row_at capacity (nth mem (line_at capacity + t) - 1)

-- The line at a has processors of the job and ticks of a plan's range.
pub record RowHeld (l : Limits) (a : ℕ) (mem : List ℕ) : Type 0 where
  pub processor_of : (c : ℕ) → c < nth mem 3 + 1 → nth mem (processor_at a c) < nth mem 1
  pub early_of : (c : ℕ) → c < nth mem 3 + 1 → Small l.tick (nth mem (early_at a c))
  pub late_of : (c : ℕ) → c < nth mem 3 + 1 → Small l.tick (nth mem (late_at a c))

-- A job, and k lines of a plan, each task in one line at the most.
pub record LinesHeld (l : Limits) (capacity k : ℕ) (mem : List ℕ) : Type 0 where
  pub job : JobHeld l capacity mem
  pub count : k ≤ nth mem 0
  pub task_of : (i : ℕ) → i < k → nth mem (row_at capacity i) < nth mem 0
  pub line_of : (i : ℕ) → i < k → nth mem (line_at capacity + nth mem (row_at capacity i)) ≡ suc i
  pub placed : (t : ℕ) → t < nth mem 0 → (nth mem (line_at capacity + t) ≡ 0) ⊎ ((i : ℕ) × (i < k) × (nth mem (line_at capacity + t) ≡ suc i) × (nth mem (row_at capacity i) ≡ t))
  pub row : (i : ℕ) → i < k → RowHeld l (row_at capacity i) mem
