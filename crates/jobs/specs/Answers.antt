-- What the public functions' answers mean: document 01's numbers and values.
use Rattle.std.specs.Prelude.{ℕ, ◌≡◌, List, map, length, take, Result}
use Rattle.definitions.specs.Limits.{Limits}
use Rattle.definitions.specs.Text.{good, bad, and_then}
use Rattle.definitions.specs.Text as Text
use Rattle.definitions.specs.Job.{Job, read_job}
use Rattle.definitions.specs.Tools.{fitting}
use Rattle.lists.specs.Over.{over}
use Rattle.text.specs.declared.refusal.Refusal.{Refusal}
use Rattle.text.specs.Numbers.{result_of}
use Rattle.orders.specs.Edges.{edge_cell}
use Rattle.orders.specs.Links.{Linked}
use Rattle.jobs.specs.Memory.{job_cells}

-- The answer r, and what the output holds after it, e, if it held d: on a good answer its cells or bytes stand at the
-- front and the rest is untouched; on a refusal all of it is untouched.
abbrev pub Answered : Text.Result (List ℕ) → List ℕ → List ℕ → Result ℕ Refusal → Type 0
Answered (good t) d e r = (result_of r ≡ good (length t)) × (e ≡ over d 0 t)
Answered (bad n) d e r = (result_of r ≡ bad n) × (e ≡ d)

-- The cells of a job that was read, or the number; then 8.
abbrev pub cells_answer : Text.Result Job → ℕ → Text.Result (List ℕ)
cells_answer x room = and_then x (λ j. fitting room (job_cells j))

-- The reader of jobs: the job's cells, or the number. The job, then 8.
unfoldable pub job_answer : Limits → List ℕ → ℕ → Text.Result (List ℕ)
job_answer l text room = cells_answer (read_job l text) room

-- The job that was read stands at the front of a memory, and its number of cells is the answer; its edges are linked; or the refusal.
abbrev pub Loaded : Text.Result Job → List ℕ → List ℕ → Result ℕ Refusal → Type 0
Loaded (good j) mem links r =
    (result_of r ≡ good (length (job_cells j))) × (take (length (job_cells j)) mem ≡ job_cells j) × Linked j.tasks (map edge_cell j.edges) links
Loaded (bad n) mem links r = result_of r ≡ bad n
