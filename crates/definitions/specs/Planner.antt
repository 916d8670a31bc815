-- "The planner", the report's algorithm 4.1: scaled levels, the choice of the task and of its boxes.
use Rattle.std.specs.Prelude.{ℕ, zero, suc, ◌+◌, ◌*◌, ◌-◌, Bool, not, ◌&&◌, ◌||◌, ltb, eqb, length, if◌then◌else◌}
use mathlib.Core.List.{List, [], ◌∷◌, map, reverse_aux}
use Rattle.definitions.specs.Lists.{nth, below, keep, all, has, same_numbers, sum, greatest}
use Rattle.definitions.specs.Job.{Edge, Job, run_time, delay, incoming, outgoing}
use Rattle.definitions.specs.Plan.{Replica, Line, Plan}
use Rattle.definitions.specs.Times.{Time, tick, never, after, least, largest, Outcome, of_task, finish, walk, placements_of, lower_bound, upper_bound}

-- The number of a tick. Where the planner asks, the time is a tick.
abbrev pub tick_of : Time → ℕ
tick_of (tick x) = x
tick_of never = 0

-- The greatest second number; ties go to the first. The pair before the list stands first.
unfoldable pub greatest_of : ℕ × ℕ → List (ℕ × ℕ) → ℕ
greatest_of x [] = x.0
greatest_of x (y ∷ ys) = greatest_of (if ltb x.1 y.1 then y else x) ys

-- A task that is not placed yet, of the set U, and its bottom level.
pub record Waiting : Type 0 where
  pub task : ℕ
  pub bottom : ℕ

-- The tasks from k on, with these bottom levels (line 4: all tasks of the job).
unfoldable pub waiting_from : ℕ → List ℕ → List Waiting
waiting_from k [] = []
waiting_from k (x ∷ xs) = record { task = k; bottom = x } ∷ waiting_from (suc k) xs

-- Box q goes before box p: it finishes sooner, or as soon and is the lower box.
abbrev pub goes_before : List ℕ → ℕ → ℕ → Bool
goes_before finishes p q =
    ltb (nth finishes q) (nth finishes p) || eqb (nth finishes q) (nth finishes p) && ltb q p

-- A line's triples from the early and the late outcomes of its replicas.
unfoldable pub replicas : List Outcome → List Outcome → List Replica
replicas [] ls = []
replicas (e ∷ es) [] = []
replicas (e ∷ es) (x ∷ ls) = record { processor = e.processor; early = tick_of e.time; late = tick_of x.time } ∷ replicas es ls

module _ (j : Job) where
  -- "Priorities are scaled by D = m(m − 1), or 1 where m = 1".
  abbrev pub scale : ℕ
  scale = if eqb j.processors 1 then 1 else j.processors * (j.processors - 1)

  -- "Scaled average run time: (m − 1) times the sum of a task's run times (m = 1: the run time)".
  unfoldable pub scaled_run : ℕ → ℕ
  scaled_run t =
      if eqb j.processors 1 then run_time j t 0 else (j.processors - 1) * sum (map (run_time j t) (below j.processors))

  -- "The sum of all delays between different boxes".
  unfoldable pub total_delay : ℕ
  total_delay =
      let processors = below j.processors in
      sum (map (λ p. sum (map (delay j p) (keep (λ q. not (eqb q p)) processors))) processors)

  -- "Scaled average message: volume × the sum" (m = 1: 0, there is no such delay).
  abbrev pub scaled_message : Edge → ℕ
  scaled_message e = e.volume * total_delay

  -- "Bottom level of an exit task: its scaled run time; else that plus the largest, over successors, of scaled message +
  -- the successor's bottom level": the levels of all tasks, from those known of the successors.
  unfoldable pub raised : List ℕ → List ℕ
  raised known =
      map (λ t. scaled_run t + greatest (map (λ e. scaled_message e + nth known e.to) (outgoing j t))) (below j.tasks)

  -- This is done until nothing changes; without a circle, as many rounds as there are tasks are enough.
  unfoldable pub settled : ℕ → List ℕ → List ℕ
  settled zero known = known
  settled (suc n) known =
      let next = raised known in
      let further = settled n next in
      if same_numbers next known then known else further

  -- The bottom levels, by task (line 2). proofs/BottomLevels.antt proves the sentence above of them.
  unfoldable pub bottom_levels : List ℕ
  bottom_levels = settled j.tasks []

  -- "That copy's largest delay to any box".
  unfoldable pub largest_delay : ℕ → ℕ
  largest_delay p = greatest (map (delay j p) (below j.processors))

  -- Line 11, the priority values: "top level: 0 for a task without predecessors; else, over predecessors, the largest of (the
  -- least, over copies, of early finish + volume × that copy's largest delay to any box), times D".
  unfoldable pub top_level : List Outcome → ℕ → ℕ
  top_level placed t =
      tick_of (largest (map (λ e. least (map (λ d. after (e.volume * largest_delay d.processor) d.time) (of_task e.from placed))) (incoming j t)))
      * scale

  -- "The free tasks (all predecessors placed)": the list α of lines 5 and 12.
  unfoldable pub free_tasks : List Outcome → List Waiting → List Waiting
  free_tasks placed waiting =
      let done = map (λ d. d.task) placed in
      keep (λ w. all (λ e. has e.from done) (incoming j w.task)) waiting

  -- A task and its priority, the sum of its top and its bottom level.
  unfoldable pub ranked : List Outcome → Waiting → ℕ × ℕ
  ranked placed w = (w.task, top_level placed w.task + w.bottom)

  -- Line 7: "of the free tasks the greatest sum is placed next; ties go to the lowest task number": w and ws, ascending.
  unfoldable pub critical_task : List Outcome → Waiting → List Waiting → ℕ
  critical_task placed w ws = greatest_of (ranked placed w) (map (ranked placed) ws)

  -- Line 8: the early finish of task t on each box, by equation (1).
  unfoldable pub trial : List Outcome → ℕ → List ℕ
  trial placed t = map (λ c. tick_of (finish j least [] placed c)) (placements_of j t (below j.processors))

  -- Line 9: "it goes on the ε + 1 boxes of least early finish; ties go to the lowest box": those before which fewer than k boxes go.
  unfoldable pub chosen : ℕ → List ℕ → List ℕ
  chosen k finishes =
      let processors = below j.processors in
      keep (λ p. ltb (length (keep (goes_before finishes p) processors)) k) processors

  -- Lines 6 to 14: n tasks more, of those that wait, after what is placed, with its early and its late ticks; losses is ε.
  unfoldable pub place : ℕ → ℕ → List Waiting → List Outcome → List Outcome → List Line
  place losses zero waiting es ls = []
  place losses (suc n) waiting es ls = elim (free_tasks es waiting) [
    | [] ↦ []
    | w ∷ ws ↦
        let t = critical_task es w ws in
        let cs = placements_of j t (chosen (losses + 1) (trial es t)) in
        let e = walk j least [] es cs in
        let x = walk j largest [] ls cs in
        record { task = t; replicas = replicas e x }
        ∷ place losses n (keep (λ w. not (eqb w.task t)) waiting) (reverse_aux e es) (reverse_aux x ls)
  ]

  -- The plan of a job that is to bear this many losses (line 1), with equations (2) and (4).
  unfoldable pub plan_for : ℕ → Plan
  plan_for losses =
      let ns = place losses j.tasks (waiting_from 0 bottom_levels) [] [] in
      record { lower = tick_of (lower_bound j ns); upper = tick_of (upper_bound j ns); lines = ns }
