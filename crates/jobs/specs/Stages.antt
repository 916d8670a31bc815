-- The stages of reading a job into a memory: what the memory holds at each of them.
use Rattle.std.specs.Prelude.{ℕ, ◌≤◌, ◌≡◌, List, ◌++◌, Bool, true, false, length, take, Result, Ok, Err}
use Rattle.definitions.specs.Lists.{nth}
use Rattle.definitions.specs.Limits.{Limits, document01}
use Rattle.definitions.specs.Text as Text
use Rattle.definitions.specs.Job.{Job, job_head_of, job_head_rule}
use Rattle.text.specs.declared.refusal.Refusal.{Refusal}
use Rattle.text.specs.declared.refusal.Refusal.TheVariants.{BadLine, Circle}
use Rattle.orders.specs.Links.{links_size}
use Rattle.heads.specs.Heads.{head_of}
use Rattle.heads.specs.Layout.{delays_at, edges_at, cells_for}
use Rattle.heads.specs.Reading.{from_runs, closed}
use Rattle.heads.specs.declared.Head.{Head}
use Rattle.heads.specs.declared.Opened.{Opened}
use Rattle.jobs.specs.Memory.{numbered}

-- What a text whose head was read says.
abbrev pub rest_of : Opened → Text.Result Job
rest_of o = closed (from_runs document01 (head_of o.head) o.rest.now)

-- A head has passed its rule, and there is room for its job, and for its links, in so many cells.
pub record Admitted (h : Head) (size links : ℕ) : Type 0 where
  pub passed : job_head_rule document01 (head_of h) ≡ 0
  pub room : cells_for (head_of h) ≤ size
  pub links_room : links_size h.tasks h.edges ≤ links

-- The answer after the last line: whether there is a line left over, whether there is a circle, and the place after the job's cells.
abbrev pub closing : Bool → Bool → ℕ → Result ℕ Refusal
closing true b end = Err BadLine
closing false true end = Err Circle
closing false false end = Ok end

-- A memory with a head within its limits in front, and room for the job, and for its links in so many cells.
pub record Headed (l : Limits) (mem : List ℕ) (links : ℕ) : Type 0 where
  pub some_task : 1 ≤ nth mem 0
  pub tasks_most : nth mem 0 ≤ l.tasks
  pub processors_most : nth mem 1 ≤ l.processors
  pub edges_most : nth mem 2 ≤ l.edges
  pub room : cells_for (job_head_of mem) ≤ length mem
  pub links_room : links_size (nth mem 0) (nth mem 2) ≤ links

-- The C lines' cells stand after the head; the C and D lines' cells do.
abbrev pub RunsIn : List ℕ → List (List ℕ) → Type 0
RunsIn mem runs = take (delays_at (job_head_of mem)) mem ≡ take 4 mem ++ numbered 0 runs

abbrev pub DelaysIn : List ℕ → List (List ℕ) → List (List ℕ) → Type 0
DelaysIn mem runs delays = take (edges_at (job_head_of mem)) mem ≡ take 4 mem ++ numbered 0 runs ++ numbered 0 delays
