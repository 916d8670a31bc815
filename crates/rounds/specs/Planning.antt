-- What the memory holds while a plan is drawn up.
use Rattle.std.specs.Prelude.{◌≡◌, ◌⊎◌, List, [], ◌∷◌, ◌++◌, map, Bool, true, false, ◌&&◌, ℕ, suc, ◌+◌, ◌*◌, ◌-◌, ◌<◌, ◌≤◌, eqb, length}
use Rattle.definitions.specs.Lists.{nth, below, keep}
use Rattle.definitions.specs.Limits.{Limits}
use Rattle.definitions.specs.Job.{Edge, Job, incoming}
use Rattle.definitions.specs.Plan.{Replica}
use Rattle.definitions.specs.Times.{Time, tick, after, least}
use Rattle.definitions.specs.Planner.{tick_of, greatest_of, Waiting, waiting_from, scale, trial, chosen, place, plan_for}
use Rattle.heads.specs.Layout.{level_at, line_at, blocked_at, priority_at, row_at, largest_delay_at, processor_at, early_at, late_at, replica_end, lanes_most}
use Rattle.jobs.specs.Held.{job_in}
use Rattle.jobs.specs.Tables.{message_most}
use Rattle.rounds.specs.Clocks.{earlies_in, lates_in, SettledTo, finish_on}
use Rattle.rounds.specs.Schedule.{top_in, PredecessorsPlaced, LargestDelaysFilled, LevelsFilled, ShortTo}
use Rattle.plans.specs.Lines.{row_end, row_outcomes, row_replicas, lines_in, RowHeld, LinesHeld}
use Rattle.lists.specs.Kept.{KeptOutside}

-- The choice of a task ------------------------------------------------------------------------------------------

-- Task t is not placed, and no edge is counted that blocks it.
abbrev pub is_free : ℕ → List ℕ → ℕ → Bool
is_free capacity mem t = eqb (nth mem (line_at capacity + t)) 0 && eqb (nth mem (blocked_at capacity + t)) 0

-- The free tasks with their priorities, ascending.
unfoldable pub free_in : ℕ → List ℕ → List (ℕ × ℕ)
free_in capacity mem = map (λ t. (t, nth mem (priority_at capacity + t))) (keep (is_free capacity mem) (below (nth mem 0)))

-- The task of greatest priority among these, which ascend, so that ties go to the lowest; d if there is none.
abbrev pub critical_of : ℕ → List (ℕ × ℕ) → ℕ
critical_of d [] = d
critical_of d (x ∷ xs) = greatest_of x xs

-- Of two free tasks t is chosen before u: its priority is greater, or as great and its number is lower.
abbrev pub Sooner : ℕ → List ℕ → ℕ → ℕ → Type 0
Sooner capacity mem t u =
    (nth mem (priority_at capacity + u) < nth mem (priority_at capacity + t)) ⊎ ((nth mem (priority_at capacity + t) ≡ nth mem (priority_at capacity + u)) × (t < u))

-- The first n cells list the free ones of the first v tasks, each once, so that of two the later is chosen first.
pub record FreeBelow (capacity v : ℕ) (cells : List ℕ) (n : ℕ) (mem : List ℕ) : Type 0 where
  pub task_of : (k : ℕ) → k < n → nth cells k < v
  pub free_of : (k : ℕ) → k < n → is_free capacity mem (nth cells k) ≡ true
  pub every : (t : ℕ) → t < v → is_free capacity mem t ≡ true → (k : ℕ) × (k < n) × (nth cells k ≡ t)
  pub sorted : (j k : ℕ) → j < k → k < n → Sooner capacity mem (nth cells k) (nth cells j)

-- The list is that of the free tasks; and a task that is blocked has no line.
pub record FreeList (capacity : ℕ) (list mem : List ℕ) : Type 0 where
  pub tasks : FreeBelow capacity (nth mem 0) list (length list) mem
  pub waits : (u : ℕ) → u < nth mem 0 → 0 < nth mem (blocked_at capacity + u) → nth mem (line_at capacity + u) ≡ 0

-- Task u was put into place i of a list of n tasks: those before it are as they were, those from i on stand one place higher. They
-- are chosen before u, and the one before u isn't.
pub record PutIn (capacity : ℕ) (mem : List ℕ) (u n i : ℕ) (d e : List ℕ) : Type 0 where
  pub within : i ≤ n
  pub before : (j : ℕ) → j < i → nth e j ≡ nth d j
  pub here : nth e i ≡ u
  pub behind : (j : ℕ) → i ≤ j → j < n → nth e (j + 1) ≡ nth d j
  pub sooner : (j : ℕ) → i ≤ j → j < n → Sooner capacity mem (nth d j) u
  pub later : (j : ℕ) → suc j ≡ i → Sooner capacity mem (nth d j) u → ⊥

-- Task t got a line; of the tables before the lines nothing else changed.
pub record Taken (capacity t : ℕ) (d e : List ℕ) : Type 0 where
  pub line_new : 0 < nth e (line_at capacity + t)
  pub other : (i : ℕ) → i < row_at capacity 0 → (i ≡ line_at capacity + t → ⊥) → nth e i ≡ nth d i

-- The tasks that wait, with their bottom levels.
unfoldable pub waiting_in : ℕ → List ℕ → List Waiting
waiting_in capacity mem =
    keep (λ w. eqb (nth mem (line_at capacity + w.task)) 0) (waiting_from 0 (map (λ t. nth mem (level_at capacity + t)) (below (nth mem 0))))

-- What a tick with a message added is at most, and what a top level is, scaled.
abbrev pub spread_most : Limits → ℕ
spread_most l = l.tick + message_most l

abbrev pub top_most : Limits → ℕ
top_most l = spread_most l * (l.processors * l.processors)

-- The line at a is one that top levels ask, for an edge of this volume.
pub record Sends (l : Limits) (capacity a volume : ℕ) (mem : List ℕ) : Type 0 where
  pub row : RowHeld l a mem
  pub within : row_end a ≤ length mem
  pub narrow : nth mem 3 ≤ l.losses
  pub ticks : (c : ℕ) → c < nth mem 3 + 1 → nth mem (early_at a c) ≤ l.tick
  pub little : volume ≤ l.volume
  pub far : LargestDelaysFilled capacity mem

-- When the data of one of the first c replicas of the line at a is everywhere, for an edge of this volume.
unfoldable pub spread_in : ℕ → ℕ → ℕ → ℕ → List ℕ → Time
spread_in capacity volume a c mem = least (map (λ d. after (volume * nth mem (largest_delay_at capacity + d.processor)) d.time) (row_outcomes false a c mem))

-- What is placed ------------------------------------------------------------------------------------------------

-- The replica of t on p, after the first k lines.
abbrev pub replica_on : ℕ → ℕ → List ℕ → ℕ → ℕ → Replica
replica_on capacity k mem t p = record { processor = p; early = tick_of (finish_on capacity false k mem t p); late = tick_of (finish_on capacity true k mem t p) }

-- k lines of the plan are drawn up, and what is left to place gives the rest of it.
pub record Drawn (l : Limits) (capacity k : ℕ) (mem : List ℕ) : Type 0 where
  pub standing : LinesHeld l capacity k mem
  pub far : LargestDelaysFilled capacity mem
  pub levels : LevelsFilled capacity mem
  pub ticks : ShortTo l capacity k mem
  pub settled : SettledTo capacity k mem
  pub rest : lines_in capacity (nth mem 3 + 1) k mem
      ++ place (job_in mem) (nth mem 3) (nth mem 0 - k) (waiting_in capacity mem) (earlies_in capacity k mem) (lates_in capacity k mem)
      ≡ (plan_for (job_in mem) (nth mem 3)).lines

-- How many edges to u come from tasks that are not placed.
abbrev pub blocking : ℕ → List ℕ → ℕ → ℕ
blocking capacity mem u = length (keep (λ e. eqb (nth mem (line_at capacity + e.from)) 0) (incoming (job_in mem) u))

-- How many of the edges es go to u.
abbrev pub entries : ℕ → List Edge → ℕ
entries u es = length (keep (λ e. eqb e.to u) es)

-- The priority of u, whose predecessors are placed.
abbrev pub priority_of : ℕ → List ℕ → ℕ → ℕ
priority_of capacity mem u = tick_of (top_in capacity u mem) * scale (job_in mem) + nth mem (level_at capacity + u)

-- Each task counts its edges from tasks that are not placed, and the edges es to it; a free task has its priority.
pub record Ranked (capacity : ℕ) (es : List Edge) (mem : List ℕ) : Type 0 where
  pub blocked : (u : ℕ) → u < nth mem 0 → nth mem (blocked_at capacity + u) ≡ blocking capacity mem u + entries u es
  pub priorities : (u : ℕ) → u < nth mem 0 → is_free capacity mem u ≡ true → nth mem (priority_at capacity + u) ≡ priority_of capacity mem u

-- Line k is to be of task t, the critical one of the free tasks.
pub record Critical (l : Limits) (capacity k t : ℕ) (mem : List ℕ) : Type 0 where
  pub drawn : Drawn l capacity k mem
  pub ranked : Ranked capacity [] mem
  pub more : k < nth mem 0
  pub lower : t ≡ critical_of (nth mem 0) (free_in capacity mem)

-- Line k is to be of task t, which would finish at these ticks, early and late.
pub record Tried (l : Limits) (capacity k t : ℕ) (early late : List ℕ) (mem : List ℕ) : Type 0 where
  pub drawn : Drawn l capacity k mem
  pub more : k < nth mem 0
  pub early_size : length early ≡ lanes_most
  pub late_size : length late ≡ lanes_most
  pub early_finishes : (p : ℕ) → p < nth mem 1 → tick (nth early p) ≡ finish_on capacity false k mem t p
  pub late_finishes : (p : ℕ) → p < nth mem 1 → tick (nth late p) ≡ finish_on capacity true k mem t p

-- The processors of line k, if it is of task t.
abbrev pub processors_for : ℕ → ℕ → ℕ → List ℕ → List ℕ
processors_for capacity k t mem = chosen (job_in mem) (nth mem 3 + 1) (trial (job_in mem) (earlies_in capacity k mem) t)

-- Replica c of the line at a was written, on p with these finishes, and nothing else.
pub record Wrote (a c p early late : ℕ) (d mem : List ℕ) : Type 0 where
  pub kept : KeptOutside (processor_at a c) (replica_end a c) d mem
  pub processor : nth mem (processor_at a c) ≡ p
  pub early_finish : nth mem (early_at a c) ≡ early
  pub late_finish : nth mem (late_at a c) ≡ late

-- Line k of a memory d has its replicas, of task t on the processors ps.
pub record Begun (capacity k t : ℕ) (ps : List ℕ) (d mem : List ℕ) : Type 0 where
  pub kept : KeptOutside (row_at capacity k) (largest_delay_at capacity) d mem
  pub replicas : row_replicas (row_at capacity k) (length ps) mem ≡ map (replica_on capacity k d t) ps

-- The first n tasks have no line, all their edges counted, and their bottom levels for priorities.
pub record Cleared (capacity n : ℕ) (j : Job) (mem : List ℕ) : Type 0 where
  pub line : (t : ℕ) → t < n → nth mem (line_at capacity + t) ≡ 0
  pub blocked : (t : ℕ) → t < n → nth mem (blocked_at capacity + t) ≡ length (incoming j t)
  pub priority : (t : ℕ) → t < n → nth mem (priority_at capacity + t) ≡ nth mem (level_at capacity + t)

-- The edges that leave a placed task no longer block ---------------------------------------------------------------

-- Edges block u; where it is one edge alone, the predecessors of u are placed.
pub record Blocked (capacity u : ℕ) (mem : List ℕ) : Type 0 where
  pub task : u < nth mem 0
  pub some : 0 < nth mem (blocked_at capacity + u)
  pub last : nth mem (blocked_at capacity + u) ≡ 1 → PredecessorsPlaced capacity u mem

-- One edge less blocks u, which has its priority if it is free now; nothing else changed.
pub record Unblocked (capacity u : ℕ) (d e : List ℕ) : Type 0 where
  pub size : length e ≡ length d
  pub count : suc (nth e (blocked_at capacity + u)) ≡ nth d (blocked_at capacity + u)
  pub priority : nth e (blocked_at capacity + u) ≡ 0 → nth e (priority_at capacity + u) ≡ priority_of capacity d u
  pub other : (i : ℕ) → (i ≡ blocked_at capacity + u → ⊥) → (i ≡ priority_at capacity + u → ⊥) → nth e i ≡ nth d i
