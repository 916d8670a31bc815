-- A job at the front of a memory, and links between its edges.
use Rattle.std.specs.Prelude.{◌≡◌, List, map, ℕ, ◌+◌, ◌<◌, ◌≤◌, length, drop}
use Rattle.definitions.specs.Lists.{nth, below}
use Rattle.definitions.specs.Limits.{Limits}
use Rattle.definitions.specs.Job.{Job, job_head_of, incoming, outgoing}
use Rattle.definitions.specs.Facts.{JobFacts}
use Rattle.orders.specs.Edges.{edge_in}
use Rattle.orders.specs.Order.{Arranged}
use Rattle.orders.specs.Links.{Run, out_start_at, in_start_at, order_at, links_size}
use Rattle.text.specs.Suited.{Suited}
use Rattle.heads.specs.Layout.{memory_size, numbers_at, edges_at, FitsIn}
use Rattle.jobs.specs.Tables.{Tabled}

-- The cell of number p of row r, counted over the C lines and then the D lines; a row begins with its own number.
abbrev pub number_at : List ℕ → ℕ → ℕ → ℕ
number_at mem r p = numbers_at (nth mem 1) r + (p + 1)

-- The cell of the run time of task t on processor p.
abbrev pub run_at : List ℕ → ℕ → ℕ → ℕ
run_at mem t p = number_at mem t p

-- The cell of the delay from processor p to processor q.
abbrev pub delay_at : List ℕ → ℕ → ℕ → ℕ
delay_at mem p q = number_at mem (nth mem 0 + p) q

-- The cell of edge i.
abbrev pub edge_at : List ℕ → ℕ → ℕ
edge_at mem i = edges_at (job_head_of mem) + i

-- The job that the cells hold.
unfoldable pub job_in : List ℕ → Job
job_in mem =
    record {
      tasks = nth mem 0;
      processors = nth mem 1;
      losses = nth mem 3;
      runs = map (λ t. map (λ p. nth mem (run_at mem t p)) (below (nth mem 1))) (below (nth mem 0));
      delays = map (λ p. map (λ q. nth mem (delay_at mem p q)) (below (nth mem 1))) (below (nth mem 1));
      edges = map (λ i. edge_in (nth mem (edge_at mem i))) (below (nth mem 2));
    }

-- The links of the job in a memory: the run of each task's edges, and an order of the tasks.
pub record LinksHeld (mem links : List ℕ) : Type 0 where
  pub size : links_size (nth mem 0) (nth mem 2) ≤ length links
  pub outs : (t : ℕ) → t < nth mem 0
      → Run (edge_at mem (nth links (out_start_at (nth mem 0) t))) (edge_at mem (nth links (out_start_at (nth mem 0) (t + 1)))) mem (outgoing (job_in mem) t)
  pub within : (t : ℕ) → t < nth mem 0 → nth links (out_start_at (nth mem 0) (t + 1)) ≤ nth mem 2
  pub ins : (t : ℕ) → t < nth mem 0
      → Run (nth links (in_start_at (nth mem 0) t)) (nth links (in_start_at (nth mem 0) (t + 1))) links (incoming (job_in mem) t)
  pub order : Arranged (nth mem 0) (job_in mem).edges (drop (order_at (nth mem 0) 0) links) (nth mem 0)

-- A job stands in a memory of this capacity, and fits it; its limits are such that the cells and the tables serve.
pub record JobHeld (l : Limits) (capacity : ℕ) (mem : List ℕ) : Type 0 where
  pub size : length mem ≡ memory_size capacity
  pub fits : FitsIn capacity (job_head_of mem)
  pub facts : JobFacts l (job_in mem)
  pub suited : Suited l
  pub tabled : Tabled l

-- A job stands in a memory of some size.
abbrev pub SomeJobHeld : Limits → List ℕ → Type 0
SomeJobHeld l mem = (capacity : ℕ) × JobHeld l capacity mem
