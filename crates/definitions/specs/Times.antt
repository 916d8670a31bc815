-- "Times": the report's equations (1) to (4) with request L2, M* and M. The replay is the same walk, with stops.
use Rattle.std.specs.Prelude.{ℕ, ◌+◌, ◌*◌, max, min, List, [], ◌∷◌, ◌++◌, map, Bool, true, false, leb, eqb, if◌then◌else◌}
use Rattle.definitions.specs.Lists.{keep, below, empty, some_or, last_of}
use Rattle.definitions.specs.Job.{Edge, Job, run_time, delay, incoming, outgoing}
use Rattle.definitions.specs.Plan.{Line, processors_of}
use Rattle.definitions.specs.Stops.{Stop}

-- "A tick is one whole unit of time": the tick at which something has come, or never.
pub data Time : Type 0 where
  tick : ℕ → Time
  never : Time

-- The later of two times: both have come.
abbrev pub later : Time → Time → Time
later (tick x) (tick y) = tick (max x y)
later (tick x) never = never
later never y = never

-- The sooner of two times: one of them has come.
abbrev pub sooner : Time → Time → Time
sooner (tick x) (tick y) = tick (min x y)
sooner (tick x) never = tick x
sooner never y = y

-- n ticks after a time.
abbrev pub after : ℕ → Time → Time
after n (tick x) = tick (x + n)
after n never = never

-- Two times are the same.
abbrev pub same : Time → Time → Bool
same (tick x) (tick y) = eqb x y
same (tick x) never = false
same never (tick y) = false
same never never = true

-- The least of several times; never, of none.
unfoldable pub least : List Time → Time
least [] = never
least (x ∷ xs) = sooner x (least xs)

-- The largest of several times; tick 0, of none.
unfoldable pub largest : List Time → Time
largest [] = tick 0
largest (x ∷ xs) = later x (largest xs)

-- A replica ("copy") of a task on a processor ("box"), and how long it runs there.
pub record Placement : Type 0 where
  pub task : ℕ
  pub processor : ℕ
  pub run : ℕ

-- A replica and when it finishes.
pub record Outcome : Type 0 where
  pub task : ℕ
  pub processor : ℕ
  pub time : Time

-- A replica that finishes at x.
abbrev pub outcome : Placement → Time → Outcome
outcome c x = record { task = c.task; processor = c.processor; time = x }

-- The outcomes of task t.
unfoldable pub of_task : ℕ → List Outcome → List Outcome
of_task t ds = keep (λ d. eqb d.task t) ds

-- The outcomes on processor p.
unfoldable pub on_processor : ℕ → List Outcome → List Outcome
on_processor p ds = keep (λ d. eqb d.processor p) ds

-- The times of some outcomes.
abbrev pub times : List Outcome → List Time
times ds = map (λ d. d.time) ds

-- When a processor stops; never, if it is not in the list.
unfoldable pub stop_time : List Stop → ℕ → Time
stop_time [] p = never
stop_time (s ∷ stops) p = let others = stop_time stops p in if eqb s.processor p then tick s.tick else others

-- "It is finished if its finish tick ≤ its box's stop tick".
abbrev pub unless_stopped : Time → Time → Time
unless_stopped never x = x
unless_stopped (tick s) never = never
unless_stopped (tick s) (tick x) = if leb x s then tick x else never

module _ (j : Job) where
  -- "With all boxes ready at 0".
  unfoldable pub first_ready : ℕ → Time
  first_ready p = tick 0

  -- r(p) of equations (1) and (3): "a box's two ready ticks become the two finishes of its newest copy". What is placed stands newest first.
  unfoldable pub ready : ℕ → List Outcome → Time
  ready p [] = first_ready p
  ready p (d ∷ placed) = let older = ready p placed in if eqb d.processor p then d.time else older

  -- W of equations (1) and (3): "volume × delay from the sender's box to the receiver's".
  abbrev pub message : Edge → ℕ → ℕ → ℕ
  message e q p = e.volume * delay j q p

  -- Which replicas of predecessor t feed box p (request L2): "where the receiving box has an earlier copy of the predecessor, only this
  -- copy's data counts (in a doubled plan the first one there)", the last here, newest first; else all, k from 1 to ε + 1.
  unfoldable pub feeding : ℕ → ℕ → List Outcome → List Outcome
  feeding t p placed = some_or (last_of (on_processor p (of_task t placed))) (of_task t placed)

  -- When the data of edge e is on p, of one that is chosen among these replicas.
  abbrev pub arrival_from : (List Time → Time) → List Outcome → ℕ → Edge → Time
  arrival_from choose senders p e = choose (map (λ d. after (message e d.processor p) d.time) senders)

  -- In equation (1) "the least, over the predecessor's copies, of early finish + W", in (3) the largest: over those that feed p.
  unfoldable pub arrival : (List Time → Time) → List Outcome → ℕ → Edge → Time
  arrival choose placed p e = arrival_from choose (feeding e.from p placed) p e

  -- "Over predecessors, the largest of" these, in equations (1) and (3); 0 with no predecessor.
  unfoldable pub data_ready : (List Time → Time) → List Outcome → ℕ → ℕ → Time
  data_ready choose placed t p = largest (map (arrival choose placed p) (incoming j t))

  -- S(t, p) of section 4.1: "a copy starts at the later of two ticks", its box is ready, and its data is there.
  unfoldable pub start : (List Time → Time) → List Outcome → ℕ → ℕ → Time
  start choose placed t p = later (ready p placed) (data_ready choose placed t p)

  -- F(t, p) of equations (1) and (3): "early finish of t on p = run time + the greater of" the two; late and in the replay the same.
  unfoldable pub finish : (List Time → Time) → List Stop → List Outcome → Placement → Time
  finish choose stops placed c =
      unless_stopped (stop_time stops c.processor) (after c.run (start choose placed c.task c.processor))

  -- "In plan order": the outcome of each replica, after those that are placed.
  unfoldable pub walk : (List Time → Time) → List Stop → List Outcome → List Placement → List Outcome
  walk choose stops placed [] = []
  walk choose stops placed (c ∷ cs) =
      let d = outcome c (finish choose stops placed c) in d ∷ walk choose stops (d ∷ placed) cs

  -- The replica of task t on processor p, with the table's run time; the replicas of t on some processors.
  abbrev pub placement_of : ℕ → ℕ → Placement
  placement_of t p = record { task = t; processor = p; run = run_time j t p }

  abbrev pub placements_of : ℕ → List ℕ → List Placement
  placements_of t ps = map (placement_of t) ps

  -- "Line order is the order in which every box takes up its copies".
  unfoldable pub placements : List Line → List Placement
  placements [] = []
  placements (n ∷ ns) = placements_of n.task (processors_of n) ++ placements ns

  -- Equation (1), the early finishes: the least over a predecessor's replicas.
  unfoldable pub earlies : List Line → List Outcome
  earlies ns = walk least [] [] (placements ns)

  -- Equation (3), "late finish: the same with late ticks throughout and the largest over the copies".
  unfoldable pub lates : List Line → List Outcome
  lates ns = walk largest [] [] (placements ns)

  -- "Exit tasks (no successor)", of equations (2) and (4).
  unfoldable pub exits : List ℕ
  exits = keep (λ t. empty (outgoing j t)) (below j.tasks)

  -- "Over exit tasks", the largest of the least (or of the largest) finish of their replicas.
  unfoldable pub makespan : (List Time → Time) → List Outcome → Time
  makespan choose ds = largest (map (λ t. choose (times (of_task t ds))) exits)

  -- Equation (2): "M* = over exit tasks, the largest of the least early finish".
  unfoldable pub lower_bound : List Line → Time
  lower_bound ns = makespan least (earlies ns)

  -- Equation (4): "M = the largest late finish of their copies".
  unfoldable pub upper_bound : List Line → Time
  upper_bound ns = makespan largest (lates ns)
