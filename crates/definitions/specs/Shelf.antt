-- What request L2 means for plans on the shelf, drawn up while every replica of a predecessor fed every box: they keep their boxes, their
-- order and their early ticks, and get new late ticks and M, never later than before. Nothing else speaks of the plans of that time.
use Rattle.std.specs.Prelude.{◌≡◌, not, ℕ, zero, suc, ◌+◌, ◌≤◌, eqb}
use mathlib.Core.List.{List, [], ◌∷◌, map, reverse_aux}
use Rattle.definitions.specs.Lists.{below, keep, In}
use Rattle.definitions.specs.Limits.{Limits}
use Rattle.definitions.specs.Text.{good}
use Rattle.definitions.specs.Job.{Job, incoming, read_job}
use Rattle.definitions.specs.Plan.{Replica, Line, Plan, read_plan}
use Rattle.definitions.specs.Stops.{Stop}
use Rattle.definitions.specs.Times.{Time, later, after, least, largest, Placement, Outcome, outcome, of_task, ready, arrival_from, stop_time, unless_stopped, placements_of, placements, earlies, lates, makespan, lower_bound, upper_bound}
use Rattle.definitions.specs.Planner.{tick_of, Waiting, waiting_from, bottom_levels, free_tasks, critical_task, chosen, replicas, plan_for}
use Rattle.definitions.specs.Replay.{replay}

module _ (j : Job) where
  -- When all data of t is on p, where every replica of a predecessor feeds every box.
  unfoldable pub data_from_all : (List Time → Time) → List Outcome → ℕ → ℕ → Time
  data_from_all choose placed t p = largest (map (λ e. arrival_from j choose (of_task e.from placed) p e) (incoming j t))

  -- The finish, the walk and the trial of boxes with that data.
  unfoldable pub shelf_finish : (List Time → Time) → List Stop → List Outcome → Placement → Time
  shelf_finish choose stops placed c =
      unless_stopped (stop_time stops c.processor) (after c.run (later (ready j c.processor placed) (data_from_all choose placed c.task c.processor)))

  unfoldable pub shelf_walk : (List Time → Time) → List Stop → List Outcome → List Placement → List Outcome
  shelf_walk choose stops placed [] = []
  shelf_walk choose stops placed (c ∷ cs) =
      let d = outcome c (shelf_finish choose stops placed c) in d ∷ shelf_walk choose stops (d ∷ placed) cs

  unfoldable pub shelf_trial : List Outcome → ℕ → List ℕ
  shelf_trial placed t = map (λ c. tick_of (shelf_finish least [] placed c)) (placements_of j t (below j.processors))

  -- The planner with that trial and that walk, and its plan.
  unfoldable pub shelf_place : ℕ → ℕ → List Waiting → List Outcome → List Outcome → List Line
  shelf_place losses zero waiting es ls = []
  shelf_place losses (suc n) waiting es ls = elim (free_tasks j es waiting) [
    | [] ↦ []
    | w ∷ ws ↦
        let t = critical_task j es w ws in
        let cs = placements_of j t (chosen j (losses + 1) (shelf_trial es t)) in
        let e = shelf_walk least [] es cs in
        let x = shelf_walk largest [] ls cs in
        record { task = t; replicas = replicas e x }
        ∷ shelf_place losses n (keep (λ w. not (eqb w.task t)) waiting) (reverse_aux e es) (reverse_aux x ls)
  ]

  unfoldable pub shelf_plan : ℕ → Plan
  shelf_plan losses =
      let ns = shelf_place losses j.tasks (waiting_from 0 (bottom_levels j)) [] [] in
      record {
        lower = tick_of (makespan j least (shelf_walk least [] [] (placements j ns)));
        upper = tick_of (makespan j largest (shelf_walk largest [] [] (placements j ns)));
        lines = ns;
      }

-- Two lists are as long, and R is true of what stands in the same place.
abbrev pub Pairwise : {A : Type 0} → (A → A → Type 0) → List A → List A → Type 0
Pairwise R [] [] = Unit {0}
Pairwise R [] (y ∷ ys) = ⊥
Pairwise R (x ∷ xs) [] = ⊥
Pairwise R (x ∷ xs) (y ∷ ys) = R x y × Pairwise R xs ys

-- A time is no later than another: the later of them is the other.
abbrev pub NoLater : Time → Time → Type 0
NoLater x y = later x y ≡ y

-- No replica finishes later than its box is ready after it. So a box that has its own copy never waits for another's message.
abbrev pub Settled : Job → List Outcome → Type 0
Settled j placed = (d : Outcome) → In d placed → NoLater d.time (ready j d.processor placed)

-- The same replica, and its time is no later.
abbrev pub Sooner : Outcome → Outcome → Type 0
Sooner d e = (d.task ≡ e.task) × (d.processor ≡ e.processor) × NoLater d.time e.time

-- A plan drawn up anew beside the one before: the same tasks in the same order, boxes, early ticks and M*; no late tick is later, nor is M.
abbrev pub Tightened : Replica → Replica → Type 0
Tightened r s = (r.processor ≡ s.processor) × (r.early ≡ s.early) × (r.late ≤ s.late)

abbrev pub LineTightened : Line → Line → Type 0
LineTightened n m = (n.task ≡ m.task) × Pairwise Tightened n.replicas m.replicas

abbrev pub Redrawn : Plan → Plan → Type 0
Redrawn p q = Pairwise LineTightened p.lines q.lines × (p.lower ≡ q.lower) × (p.upper ≤ q.upper)

module _ (l : Limits) where
  -- Of every plan that is read for a job: early ticks, M* and every replay are what they were; no late tick is later, nor is M.
  abbrev pub ShelfTicks : Type 0
  ShelfTicks =
      (job plan : List ℕ) (j : Job) (p : Plan) → read_job l job ≡ good j → read_plan l j plan ≡ good p
      → let cs = placements j p.lines in
      (earlies j p.lines ≡ shelf_walk j least [] [] cs)
      × (lower_bound j p.lines ≡ makespan j least (shelf_walk j least [] [] cs))
      × ((ss : List Stop) → replay j ss p.lines ≡ shelf_walk j least ss [] cs)
      × Pairwise Sooner (lates j p.lines) (shelf_walk j largest [] [] cs)
      × NoLater (upper_bound j p.lines) (makespan j largest (shelf_walk j largest [] [] cs))

  -- Of every job: the planner's plan is the one on the shelf, drawn up anew.
  abbrev pub ShelfPlans : Type 0
  ShelfPlans = (job : List ℕ) (j : Job) → read_job l job ≡ good j → Redrawn (plan_for j j.losses) (shelf_plan j j.losses)
