-- What is known of a job and of a plan that were read.
use Rattle.std.specs.Prelude.{◌≡◌, List, [], ◌∷◌, true, false, ℕ, ◌+◌, ◌<◌, ◌≤◌, length}
use Rattle.std.proofs.Math.Option.{Option, none, some}
use Rattle.definitions.specs.Lists.{In, distinct}
use Rattle.definitions.specs.Limits.{Limits}
use Rattle.definitions.specs.Job.{Edge, Job, run_time, delay, incoming, Ascends, circular}
use Rattle.definitions.specs.Plan.{Replica, Line, Plan, processors_of, descends}
use Rattle.definitions.specs.Stops.{Stop}

-- A job that was read: its numbers are in their ranges, its edges ascend (6, 16) and form no circle (7).
pub record JobFacts (l : Limits) (j : Job) : Type 0 where
  pub some_task : 1 ≤ j.tasks
  pub tasks_most : j.tasks ≤ l.tasks
  pub some_processor : 1 ≤ j.processors
  pub processors_most : j.processors ≤ l.processors
  pub losses_most : j.losses ≤ l.losses
  pub enough : j.losses + 1 ≤ j.processors
  pub edges_most : length j.edges ≤ l.edges
  pub run_least : (t p : ℕ) → t < j.tasks → p < j.processors → 1 ≤ run_time j t p
  pub run_most : (t p : ℕ) → t < j.tasks → p < j.processors → run_time j t p ≤ l.run_time
  pub delay_most : (p q : ℕ) → p < j.processors → q < j.processors → delay j p q ≤ l.delay
  pub delay_self : (p : ℕ) → p < j.processors → delay j p p ≡ 0
  pub from_task : (e : Edge) → In e j.edges → e.from < j.tasks
  pub to_task : (e : Edge) → In e j.edges → e.to < j.tasks
  pub volume_most : (e : Edge) → In e j.edges → e.volume ≤ l.volume
  pub ascends : Ascends j.edges
  pub no_circle : circular j ≡ false

-- Every predecessor of task t is among these tasks.
abbrev pub PredecessorsIn : Job → ℕ → List ℕ → Type 0
PredecessorsIn j t us = (e : Edge) → In e (incoming j t) → In e.from us

-- A line `T,task,` of a plan that was read, after lines with the tasks in `seen`: ε + 1 replicas, no box less than the one before (11), its
-- task new and after its predecessors (10).
pub record LineFacts (j : Job) (seen : List ℕ) (n : Line) : Type 0 where
  pub task_below : n.task < j.tasks
  pub width : length n.replicas ≡ j.losses + 1
  pub processors_below : (p : ℕ) → In p (processors_of n) → p < j.processors
  pub ascends : descends (processors_of n) ≡ false
  pub new : In n.task seen → ⊥
  pub predecessors : PredecessorsIn j n.task seen

-- Lines in order, after lines with the tasks in `seen`, the newest first.
abbrev pub Ordered : Job → List ℕ → List Line → Type 0
Ordered j seen [] = Unit {0}
Ordered j seen (n ∷ ns) = LineFacts j seen n × Ordered j (n.task ∷ seen) ns

-- No line has a processor twice.
abbrev pub Apart : List Line → Type 0
Apart ns = (n : Line) → In n ns → distinct (processors_of n) ≡ true

-- The ticks of a line are at most b.
abbrev pub Ticks : ℕ → Line → Type 0
Ticks b n = (r : Replica) → In r n.replicas → (r.early ≤ b) × (r.late ≤ b)

-- A plan that was read for j: M*, M and every tick in range, and v T lines.
pub record PlanFacts (l : Limits) (j : Job) (p : Plan) : Type 0 where
  pub lower_most : p.lower ≤ l.tick
  pub upper_most : p.upper ≤ l.tick
  pub count : length p.lines ≡ j.tasks
  pub ordered : Ordered j [] p.lines
  pub ticks_most : (n : Line) → In n p.lines → Ticks l.tick n

-- Stops on processors that ascend from low on.
abbrev pub Ascending : Limits → Job → ℕ → List Stop → Type 0
Ascending l j low [] = Unit {0}
Ascending l j low (s ∷ ss) = (low ≤ s.processor) × (s.processor < j.processors) × (s.tick ≤ l.tick) × Ascending l j (1 + s.processor) ss

-- The processors after the last stop's; all, if there is none.
abbrev pub after_last : Option Stop → ℕ
after_last none = 0
after_last (some s) = 1 + s.processor
