-- "The words of demand 3", and what is claimed of the definitions. proofs/ proves each claim.
use Rattle.std.specs.Prelude.{◌≡◌, List, [], ◌∷◌, ◌++◌, map, reverse, ℕ, ◌+◌, ◌*◌, ◌^◌, ◌≤◌, ◌<◌, eqb, length, take, if◌then◌else◌}
use Rattle.definitions.specs.Lists.{bytes, below, In, has}
use Rattle.definitions.specs.Limits.{Limits, document01}
use Rattle.definitions.specs.Text.{width, decimal, line_text, good}
use Rattle.definitions.specs.Job.{Edge, Job, Ascends, read_job}
use Rattle.definitions.specs.Plan.{Line, Plan, processors_of, read_plan, replica_numbers, plan_text}
use Rattle.definitions.specs.Stops.{Stop, read_stops, stops_text}
use Rattle.definitions.specs.Facts.{Ticks}
use Rattle.definitions.specs.Times.{Time, tick, never, Outcome, earlies, lates, exits}
use Rattle.definitions.specs.Obeys.{Obeys}
use Rattle.definitions.specs.Planner.{Waiting, waiting_from, bottom_levels, ranked, trial, plan_for}
use Rattle.definitions.specs.Replay.{replay, first_finish, replay_makespan, result_lines}
use Rattle.definitions.specs.Shelf.{ShelfTicks, ShelfPlans}
use Rattle.definitions.specs.Answers.{accepted, doubled, verdict, planned, replayed}

-- A task's boxes are those of its T line, each taken once.
unfoldable pub task_processors : ℕ → List Line → List ℕ
task_processors t [] = []
task_processors t (n ∷ ns) = let others = task_processors t ns in if eqb n.task t then processors_of n else others

unfoldable pub once : List ℕ → List ℕ
once [] = []
once (p ∷ ps) = let others = once ps in if has p ps then others else p ∷ others

-- Stopping boxes at tick 0: the list with a line `S,box,0` for each and no other line.
abbrev pub halted : List ℕ → List Stop
halted ps = map (λ p. record { processor = p; tick = 0 }) ps

-- The stop list of demand 3's second half, for task t.
abbrev pub halting_of : ℕ → List Line → List Stop
halting_of t ns = halted (once (task_processors t ns))

-- A time does not pass b; no time of some outcomes does.
abbrev pub Within : ℕ → Time → Type 0
Within b (tick x) = x ≤ b
Within b never = Unit {0}

abbrev pub AllWithin : ℕ → List Outcome → Type 0
AllWithin b ds = (d : Outcome) → In d ds → Within b d.time

-- What is placed is on the job's processors, and no tick of it passes b.
abbrev pub PlacedWithin : Job → ℕ → List Outcome → Type 0
PlacedWithin j b ds = (d : Outcome) → In d ds → (d.processor < j.processors) × Within b d.time

-- No stop comes before an outcome on its processor.
abbrev pub Outlast : List Stop → List Outcome → Type 0
Outlast ss ds = (s : Stop) → In s ss → (d : Outcome) → In d ds → s.processor ≡ d.processor → Within s.tick d.time

-- A task that is done: its first finish and the box of it.
pub record Done : Type 0 where
  pub task : ℕ
  pub processor : ℕ
  pub tick : ℕ

-- What the plan's replicas do if the boxes of task t stop at tick 0.
abbrev pub halted_replay : Job → ℕ → List Line → List Outcome
halted_replay j t ns = replay j (halting_of t ns) ns

-- What the planner has placed after k lines of its plan, the newest first.
abbrev pub placed_after : Job → ℕ → List Outcome
placed_after j k = reverse (earlies j (take k (plan_for j j.losses).lines))

module _ (l : Limits) where
  -- The two bounds on ticks: "255 × 2,044,225", a run and a message for each task; and "255 × 9,044,225", where "one line
  -- can add 8 runs to a box".
  abbrev pub plan_ticks : ℕ
  plan_ticks = l.tasks * (l.run_time + l.volume * l.delay)

  abbrev pub replay_ticks : ℕ
  replay_ticks = l.tasks * ((l.losses + 1) * l.run_time + l.volume * l.delay)

  -- The most bytes of a number up to n, printed, and of the mark after it.
  abbrev pub field_length : ℕ → ℕ
  field_length n = width l n + 1

  -- The most bytes of a T line whose ticks do not pass plan_ticks: its task and ε + 1 triples.
  unfoldable pub line_length : ℕ
  line_length = 2 + field_length l.tasks + (l.losses + 1) * (field_length l.processors + field_length plan_ticks + field_length plan_ticks)

  -- The most bytes of such a plan: its head and a T line for each task.
  unfoldable pub plan_length : ℕ
  plan_length =
      5 + field_length l.tasks + field_length l.processors + field_length l.losses + field_length plan_ticks + field_length plan_ticks
      + l.tasks * line_length

  -- The limits leave room for what the tools print: every number in range has no more digits than are printed and read; a
  -- stop line for each processor, and the longest plan, fit a text; the greatest tick of a plan is in range, and the
  -- greatest priority of a task fits 64 bits.
  pub record Roomy : Type 0 where
    pub some_digit : 1 ≤ l.powers
    pub digits_read : l.powers ≤ l.digits
    pub task_digits : l.tasks < 10 ^ l.powers
    pub processor_digits : l.processors < 10 ^ l.powers
    pub losses_digits : l.losses < 10 ^ l.powers
    pub tick_digits : l.tick < 10 ^ l.powers
    pub stops_room : l.processors * (2 + 2 * (l.powers + 1)) ≤ l.text_length
    pub plan_room : plan_length ≤ l.text_length
    pub tick_room : plan_ticks ≤ l.tick
    pub level_room : l.processors * l.processors * (2 * plan_ticks + l.volume * l.delay) < 2 ^ 64

  -- A job, a plan and a stop list that were read.
  pub record Read (job plan stops : List ℕ) (j : Job) (p : Plan) (ss : List Stop) : Type 0 where
    pub job_read : read_job l job ≡ good j
    pub plan_read : read_plan l j plan ≡ good p
    pub stops_read : read_stops l j stops ≡ good ss

  -- Every accepted plan keeps its promise: under every stop list of at most ε lines each task has a first finish, and
  -- the round ends between M* and M.
  abbrev pub Kept : Type 0
  Kept =
      (job plan stops : List ℕ) (j : Job) (p : Plan) (ss : List Stop) → Read job plan stops j p ss
      → verdict l job plan ≡ accepted → length ss ≤ j.losses
      → ((t : ℕ) → t < j.tasks → (x : ℕ) × (first_finish t (replay j ss p.lines) ≡ tick x))
      × ((x : ℕ) × (replay_makespan j (replay j ss p.lines) ≡ tick x) × (p.lower ≤ x) × (x ≤ p.upper))

  -- With no stop it ends at M*.
  abbrev pub Quiet : Type 0
  Quiet =
      (job plan stops : List ℕ) (j : Job) (p : Plan) → Read job plan stops j p [] → verdict l job plan ≡ accepted
      → replay_makespan j (replay j [] p.lines) ≡ tick p.lower

  -- A stop at or after the last finish on its box changes nothing.
  abbrev pub LateStops : Type 0
  LateStops =
      (job plan stops : List ℕ) (j : Job) (p : Plan) (ss : List Stop) → Read job plan stops j p ss
      → Outlast ss (replay j [] p.lines) → replay j ss p.lines ≡ replay j [] p.lines

  -- Where 12 is due, for each task with two replicas on one box: its boxes stopped at tick 0 are a well formed stop list
  -- of at most ε lines, and under it the task is undone, and so is the round if it is an exit task.
  abbrev pub Doubled : Type 0
  Doubled =
      (job plan : List ℕ) (j : Job) (p : Plan) (ts : List ℕ) → read_job l job ≡ good j → read_plan l j plan ≡ good p
      → verdict l job plan ≡ doubled ts → (t : ℕ) → In t ts
      → (read_stops l j (stops_text l (halting_of t p.lines)) ≡ good (halting_of t p.lines))
      × (length (halting_of t p.lines) ≤ j.losses)
      × (first_finish t (replay j (halting_of t p.lines) p.lines) ≡ never)
      × (In t (exits j) → replay_makespan j (replay j (halting_of t p.lines) p.lines) ≡ never)

  -- The R lines `R,task,box,tick` of tasks that are done.
  unfoldable pub results_text : List Done → List ℕ
  results_text [] = []
  results_text (d ∷ ds) = line_text l (bytes "R,") (d.task ∷ d.processor ∷ d.tick ∷ []) ++ results_text ds

  -- The R line `R,task,-,-` of a task that is undone.
  abbrev pub undone_text : ℕ → List ℕ
  undone_text t = bytes "R," ++ decimal l t ++ bytes ",-,-\n"

  -- `Kept` and `Quiet` in the replay's answer: an R line with a tick for each task in order, an L line from M* to M.
  abbrev pub KeptAnswer : List ℕ → List ℕ → List ℕ → Type 0
  KeptAnswer job plan stops =
      (j : Job) (p : Plan) (ss : List Stop) → Read job plan stops j p ss → verdict l job plan ≡ accepted → length ss ≤ j.losses
      → (ds : List Done) × (x : ℕ) × (map (λ d. d.task) ds ≡ below j.tasks)
      × (replayed l job plan stops ≡ good (results_text ds ++ line_text l (bytes "L,") (x ∷ [])))
      × (p.lower ≤ x)
      × (x ≤ p.upper)
      × (ss ≡ [] → x ≡ p.lower)

  -- Of every three texts.
  abbrev pub KeptBytes : Type 0
  KeptBytes = (job plan stops : List ℕ) → KeptAnswer job plan stops

  -- `Doubled` in the replay's answer: `R,t,-,-` after the R lines of the tasks below t; for an exit task at the end `L,-`.
  abbrev pub DoubledAnswer : List ℕ → List ℕ → Type 0
  DoubledAnswer job plan =
      (j : Job) (p : Plan) (ts : List ℕ) → read_job l job ≡ good j → read_plan l j plan ≡ good p
      → verdict l job plan ≡ doubled ts → (t : ℕ) → In t ts
      → (length (halting_of t p.lines) ≤ j.losses)
      × (after : List ℕ)
      × (replayed l job plan (stops_text l (halting_of t p.lines)) ≡ good (result_lines l (below t) (halted_replay j t p.lines) ++ undone_text t ++ after))
      × (In t (exits j) → (others : List ℕ) × (after ≡ others ++ bytes "L,-\n"))

  -- Of every two texts.
  abbrev pub DoubledBytes : Type 0
  DoubledBytes = (job plan : List ℕ) → DoubledAnswer job plan

  -- A plan that was read is accepted exactly if it obeys the report's equations over the ticks that it writes.
  abbrev pub AcceptedObeys : Type 0
  AcceptedObeys =
      (job plan : List ℕ) (j : Job) (p : Plan) → read_job l job ≡ good j → read_plan l j plan ≡ good p
      → (verdict l job plan ≡ accepted → Obeys j p) × (Obeys j p → verdict l job plan ≡ accepted)

  -- The numbers of a plan are printed with all their digits.
  pub record Printable (p : Plan) : Type 0 where
    pub lower_printed : p.lower < 10 ^ l.powers
    pub upper_printed : p.upper < 10 ^ l.powers
    pub line_printed : (n : Line) → In n p.lines → (v : ℕ) → In v (n.task ∷ replica_numbers n.replicas) → v < 10 ^ l.powers

  -- Whatever plan is printed: its text is accepted exactly if it obeys them.
  abbrev pub PrintedObeys : Type 0
  PrintedObeys =
      (job : List ℕ) (j : Job) (p : Plan) → read_job l job ≡ good j
      → (Printable p → verdict l job (plan_text l j p) ≡ accepted → Obeys j p) × (Obeys j p → verdict l job (plan_text l j p) ≡ accepted)

  -- The planner's own plans are accepted.
  abbrev pub OwnAccepted : Type 0
  OwnAccepted = (job : List ℕ) (j : Job) → read_job l job ≡ good j → verdict l job (planned l j) ≡ accepted

  -- No tick of an accepted plan passes the first bound: of the equations, of its T lines, M* and M.
  pub record PlanWithin (j : Job) (p : Plan) : Type 0 where
    pub earlies_most : AllWithin plan_ticks (earlies j p.lines)
    pub lates_most : AllWithin plan_ticks (lates j p.lines)
    pub written_most : (n : Line) → In n p.lines → Ticks plan_ticks n
    pub lower_most : p.lower ≤ plan_ticks
    pub upper_most : p.upper ≤ plan_ticks

  -- And no tick of a replay passes the second, whatever stops.
  abbrev pub TicksFit : Type 0
  TicksFit =
      (job plan : List ℕ) (j : Job) (p : Plan) → read_job l job ≡ good j → read_plan l j plan ≡ good p
      → (verdict l job plan ≡ accepted → PlanWithin j p) × ((ss : List Stop) → AllWithin replay_ticks (replay j ss p.lines))

  -- Whatever the planner has placed, the priority of every task fits 64 bits; and while a task is left to be placed, no
  -- finish that is tried passes the first bound.
  abbrev pub LevelsFit : Type 0
  LevelsFit =
      (job : List ℕ) (j : Job) → read_job l job ≡ good j → (k : ℕ)
      → ((w : Waiting) → In w (waiting_from 0 (bottom_levels j)) → (ranked j (placed_after j k) w).1 < 2 ^ 64)
      × (k < j.tasks → (t : ℕ) → t < j.tasks → (x : ℕ) → In x (trial j (placed_after j k) t) → x ≤ plan_ticks)

  -- The edges of a job that was read ascend.
  abbrev pub EdgesAscend : Type 0
  EdgesAscend = (job : List ℕ) (j : Job) → read_job l job ≡ good j → Ascends j.edges

  -- So jobs that were read and have the same edges have them in the same order.
  abbrev pub OneOrder : Type 0
  OneOrder =
      (job other : List ℕ) (j k : Job) → read_job l job ≡ good j → read_job l other ≡ good k
      → ((e : Edge) → In e j.edges → In e k.edges) → ((e : Edge) → In e k.edges → In e j.edges)
      → j.edges ≡ k.edges

-- With document 01's limits: an accepted plan bears these stops, if they are at most ε.
abbrev pub Bears : List ℕ → List ℕ → List ℕ → Type 0
Bears job plan stops = KeptAnswer document01 job plan stops

-- With document 01's limits: for each doubled task a plan breaks under at most ε stops.
abbrev pub Breaks : List ℕ → List ℕ → Type 0
Breaks job plan = DoubledAnswer document01 job plan

-- All of this is true with the limits of document 01, the two bounds on ticks are those that it gives, edges have one order, and plans on the
-- shelf keep their boxes, order and early ticks.
abbrev pub Claim : Type 0
Claim =
    Kept document01
    × Quiet document01
    × LateStops document01
    × Doubled document01
    × KeptBytes document01
    × DoubledBytes document01
    × OwnAccepted document01
    × TicksFit document01
    × LevelsFit document01
    × (plan_ticks document01 ≡ 521_277_375)
    × (replay_ticks document01 ≡ 2_306_277_375)
    × EdgesAscend document01
    × OneOrder document01
    × AcceptedObeys document01
    × PrintedObeys document01
    × ShelfTicks document01
    × ShelfPlans document01
