-- The plans that are asked for, beside the report's equations (1) to (4): every tick that a plan writes satisfies its equation
-- over the ticks that it writes in the lines before. specs/Claims.antt claims that these are the plans that are accepted.
use Rattle.std.specs.Prelude.{ℕ, ◌+◌, ◌<◌, ◌≡◌, List, [], ◌∷◌, ◌++◌, map, reverse, length}
use Rattle.definitions.specs.Lists.{In}
use Rattle.definitions.specs.Job.{Edge, Job, run_time, incoming}
use Rattle.definitions.specs.Plan.{Replica, Line, Plan, processors_of, line_tasks}
use Rattle.definitions.specs.Times.{Time, tick, later, after, least, largest, Outcome, ready, data_ready, makespan}

-- A replica of task t that finishes at the tick that its line writes: the early or the late one.
abbrev pub written_outcome : (Replica → ℕ) → ℕ → Replica → Outcome
written_outcome which t r = record { task = t; processor = r.processor; time = tick (which r) }

-- The replicas of some lines with the ticks that are written, in written order.
unfoldable pub written : (Replica → ℕ) → List Line → List Outcome
written which [] = []
written which (n ∷ ns) = map (written_outcome which n.task) n.replicas ++ written which ns

-- "Within a line the boxes ascend": each processor is smaller than all after it.
abbrev pub Rising : List ℕ → Type 0
Rising [] = Unit {0}
Rising (p ∷ ps) = ((q : ℕ) → In q ps → p < q) × Rising ps

module _ (j : Job) where
  -- The right side of equations (1) and (3): E(t, p) + max(r(p), max over predecessors of (the least, or the largest, over
  -- the replicas that feed p of F + W)). What is placed stands newest first.
  abbrev pub equation : (List Time → Time) → List Outcome → ℕ → ℕ → Time
  equation choose placed t p = after (run_time j t p) (later (ready j p placed) (data_ready j choose placed t p))

  -- A line, after the lines in `before`.
  pub record LineObeys (before : List Line) (n : Line) : Type 0 where
    -- Its task is the job's, has no line before, and all its predecessors have.
    pub task_known : n.task < j.tasks
    pub task_once : In n.task (line_tasks before) → ⊥
    pub after_predecessors : (e : Edge) → In e (incoming j n.task) → In e.from (line_tasks before)
    -- "ε + 1 copies of each task to different processors" (section 4): they ascend.
    pub replica_count : length n.replicas ≡ j.losses + 1
    pub processors_known : (p : ℕ) → In p (processors_of n) → p < j.processors
    pub processors_rise : Rising (processors_of n)
    -- Equation (1), over the early ticks that are written in the lines before.
    pub early_tick : (r : Replica) → In r n.replicas
        → tick r.early ≡ equation least (reverse (written (λ q. q.early) before)) n.task r.processor
    -- Equation (3), over the late ticks that are written in the lines before.
    pub late_tick : (r : Replica) → In r n.replicas
        → tick r.late ≡ equation largest (reverse (written (λ q. q.late) before)) n.task r.processor

  -- A plan.
  pub record Obeys (p : Plan) : Type 0 where
    -- Every task of the job has a line, and every line is as it must be after those before it.
    pub every_task : (t : ℕ) → t < j.tasks → In t (line_tasks p.lines)
    pub every_line : (before rest : List Line) (n : Line) → p.lines ≡ before ++ n ∷ rest → LineObeys before n
    -- Equation (2): M* is, over exit tasks, the largest of the least early tick that is written.
    pub lower_bound : tick p.lower ≡ makespan j least (written (λ q. q.early) p.lines)
    -- Equation (4): M is, over exit tasks, the largest late tick that is written.
    pub upper_bound : tick p.upper ≡ makespan j largest (written (λ q. q.late) p.lines)
