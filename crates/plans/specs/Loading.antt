-- What the memory holds after a plan, and a job with a plan for it, were read.
use Rattle.std.specs.Prelude.{◌≡◌, List, [], ◌∷◌, ◌++◌, ℕ, suc, ◌+◌, Result, Ok}
use Rattle.definitions.specs.Lists.{nth}
use Rattle.definitions.specs.Limits.{Limits}
use Rattle.definitions.specs.Text.{next, return, lines, good, bad, and_then, ended}
use Rattle.definitions.specs.Text as Text
use Rattle.definitions.specs.Job.{Job, JobHead, read_job}
use Rattle.definitions.specs.Plan.{Line, Plan, plan_line, plan_line_rule, read_plan}
use Rattle.text.specs.declared.refusal.Refusal.{Refusal}
use Rattle.text.specs.Meaning.{reading, ruled}
use Rattle.text.specs.Numbers.{result_of}
use Rattle.lists.specs.Kept.{KeptOutside}
use Rattle.heads.specs.Layout.{lower_at, upper_at, line_at, row_at, largest_delay_at}
use Rattle.jobs.specs.Held.{job_in, LinksHeld}
use Rattle.jobs.specs.Loading.{job_from}
use Rattle.plans.specs.Lines.{row_end, row_replicas, lines_in, LinesHeld}
use Rattle.definitions.specs.Facts.{PlanFacts}

-- The line at a, with the job's number of replicas.
abbrev pub line_in : ℕ → List ℕ → Line
line_in a mem = record { task = nth mem a; replicas = row_replicas a (nth mem 3 + 1) mem }

-- The T line in front of the text s was read into row k, with the answer r, and the text t is left: the line that stands there then, or the
-- refusal.
pub record RowFilled (l : Limits) (capacity k : ℕ) (s t : List ℕ) (d mem : List ℕ) (r : Result (Unit {0}) Refusal) : Type 0 where
  pub kept : KeptOutside (row_at capacity k) (row_end (row_at capacity k)) d mem
  pub answer : reading t (line_in (row_at capacity k) mem) r ≡ plan_line l (job_in d) s

-- The answer r to the T line in front of the text s, after which t is left, and which becomes row k of the memory: the line, which then stands
-- after the k lines before it, or the refusal.
pub record LineRead (l : Limits) (capacity k : ℕ) (s t : List ℕ) (d mem : List ℕ) (r : Result (Unit {0}) Refusal) : Type 0 where
  pub kept : KeptOutside (line_at capacity) (largest_delay_at capacity) d mem
  pub latest : Line
  pub answer : reading t latest r ≡ ruled (plan_line l (job_in d)) (plan_line_rule l (job_in d)) (lines_in capacity (nth d 3 + 1) k d) s
  pub standing : r ≡ Ok tt → LinesHeld l capacity (suc k) mem
  pub more : r ≡ Ok tt → lines_in capacity (nth d 3 + 1) (suc k) mem ≡ lines_in capacity (nth d 3 + 1) k d ++ latest ∷ []

-- The plan in a memory: M*, M and a line for each task.
unfoldable pub plan_in : ℕ → List ℕ → Plan
plan_in capacity mem = record { lower = nth mem (lower_at capacity); upper = nth mem (upper_at capacity); lines = lines_in capacity (nth mem 3 + 1) (nth mem 0) mem }

-- A plan of this M* and M for a job, from its T lines on.
unfoldable pub plan_from : Limits → Job → ℕ → ℕ → List ℕ → Text.Result Plan
plan_from l j lower upper s =
    ended
    (next (lines (plan_line l j) (plan_line_rule l j) j.tasks [] s) (λ ns. return (record { lower = lower; upper = upper; lines = ns })))

-- The plan that was read stands in the memory, each line in its row; or the refusal.
abbrev pub PlanLoaded : Limits → ℕ → Text.Result Plan → List ℕ → Result (Unit {0}) Refusal → Type 0
PlanLoaded l capacity (good p) mem r = (result_of r ≡ good tt) × (plan_in capacity mem ≡ p) × LinesHeld l capacity (nth mem 0) mem
PlanLoaded l capacity (bad n) mem r = result_of r ≡ bad n

-- A job that was read, then a plan's text for it.
unfoldable pub with_plan : Limits → Text.Result Job → List ℕ → Text.Result (Job × Plan)
with_plan l x plan = and_then x λ j. and_then (read_plan l j plan) λ p. good (j, p)

-- A job's text, then a plan's for that job.
abbrev pub read_both : Limits → List ℕ → List ℕ → Text.Result (Job × Plan)
read_both l job plan = with_plan l (read_job l job) plan

-- The same after the job's head, for a memory and links of so many cells.
abbrev pub both_from : Limits → ℕ → ℕ → ℕ → JobHead → List ℕ → List ℕ → Text.Result (Job × Plan)
both_from l capacity size links h s plan = with_plan l (job_from l capacity size links h s) plan

-- The job and the plan that were read stand in one memory, and the job's links in theirs; or the refusal.
abbrev pub BothLoaded : Limits → ℕ → Text.Result (Job × Plan) → List ℕ → List ℕ → Result (Unit {0}) Refusal → Type 0
BothLoaded l capacity (good (j, p)) mem links r =
    (result_of r ≡ good tt) × (job_in mem ≡ j) × (plan_in capacity mem ≡ p) × LinesHeld l capacity (nth mem 0) mem × LinksHeld mem links
BothLoaded l capacity (bad n) mem links r = result_of r ≡ bad n

-- A plan that was read stands in a memory with its job, a line for each task.
pub record PlanHeld (l : Limits) (capacity : ℕ) (mem : List ℕ) : Type 0 where
  pub standing : LinesHeld l capacity (nth mem 0) mem
  pub facts : PlanFacts l (job_in mem) (plan_in capacity mem)
