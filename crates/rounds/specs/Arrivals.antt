-- Data and finishes on all processors at once, in tables with a lane for each.
use Rattle.std.specs.Prelude.{◌≡◌, List, Bool, true, false, ℕ, ◌+◌, ◌*◌, ◌/◌, ◌≤◌, ◌<◌, eqb, length, Float, if◌then◌else◌}
use Rattle.definitions.specs.Lists.{nth, In}
use Rattle.definitions.specs.Limits.{Limits}
use Rattle.definitions.specs.Job.{Edge, run_time, delay, incoming}
use Rattle.definitions.specs.Times.{Time, tick, never, later, after, times}
use Rattle.definitions.specs.Shelf.{NoLater}
use Rattle.heads.specs.Layout.{line_at, row_at, processor_at, early_at, late_at, time_at, lanes_most}
use Rattle.jobs.specs.Held.{job_in}
use Rattle.jobs.specs.Tables.{message_most, last_short}
use Rattle.rounds.specs.Schedule.{choice_of, arrival_in, data_in, PredecessorsPlaced}
use Rattle.ticks.specs.Cells.{time_in}
use Rattle.ticks.specs.Floats.{time_of, Held, lane, lane_time}
use Rattle.plans.specs.Lines.{row_outcomes, row_of}
use Rattle.ticks.specs.declared.clocks.Clocks.{Clocks}
use Rattle.rounds.specs.declared.times.Delays.{Delays}

-- The last tick of a lane: one of a plan's range with a message added.
abbrev pub lane_most : Limits → ℕ
lane_most l = l.tick + message_most l

-- The last tick of a round with a message added.
abbrev pub last_arrival : Limits → ℕ
last_arrival l = last_short + message_most l

-- The cells of a table of delays: a lane for each processor that receives, for each that sends.
abbrev pub delay_cells : ℕ
delay_cells = lanes_most * lanes_most

-- The job's delays.
pub record DelayTable (l : Limits) (delays mem : List ℕ) : Type 0 where
  pub cell : (q p : ℕ) → q < nth mem 1 → p < nth mem 1 → nth delays (q * lanes_most + p) ≡ delay (job_in mem) q p
  pub most : (i : ℕ) → i < delay_cells → nth delays i ≤ l.delay

-- No delay of the job passes n.
abbrev pub NoDelayOver : ℕ → List ℕ → Type 0
NoDelayOver n mem = (q p : ℕ) → q < nth mem 1 → p < nth mem 1 → delay (job_in mem) q p ≤ n

-- The delays of the first i cells are in the table, and none of it is over the greatest.
pub record DelaysTo (l : Limits) (mem : List ℕ) (i : ℕ) (delays : Delays) : Type 0 where
  pub size : length delays.table ≡ delay_cells
  pub cell : (q p : ℕ) → q < nth mem 1 → p < nth mem 1 → q * lanes_most + p < i → nth delays.table (q * lanes_most + p) ≡ delay (job_in mem) q p
  pub over : (k : ℕ) → k < delay_cells → nth delays.table k ≤ delays.most
  pub within : delays.most ≤ l.delay

-- The job's delays, and the greatest of them or more.
pub record DelaysHeld (l : Limits) (delays : Delays) (mem : List ℕ) : Type 0 where
  pub table : DelayTable l delays.table mem
  pub over : NoDelayOver delays.most mem
  pub most : delays.most ≤ l.delay

-- The lanes of e hold the time f p for each processor p of the job.
pub record TimeTable (l : Limits) (f : ℕ → Time) (mem : List ℕ) (e : List Float) : Type 0 where
  pub time : (p : ℕ) → p < nth mem 1 → lane_time e p ≡ f p
  pub held : (p : ℕ) → p < nth mem 1 → Held (lane_most l) (lane e p)

-- Lane i of a table of half h is of a processor of the job.
abbrev pub OfHalf : ℕ → List ℕ → ℕ → Type 0
OfHalf h mem i = (i < 8) × (8 * h + i < nth mem 1)

-- The lanes of e hold the time f p for each processor p of the job that is of half h.
pub record HalfTable (l : Limits) (h : ℕ) (f : ℕ → Time) (mem : List ℕ) (e : List Float) : Type 0 where
  pub time : (i : ℕ) → OfHalf h mem i → lane_time e i ≡ f (8 * h + i)
  pub held : (i : ℕ) → OfHalf h mem i → Held (lane_most l) (lane e i)

-- The lanes of e hold times.
abbrev pub LanesHeld : Limits → List ℕ → List Float → Type 0
LanesHeld l mem e = TimeTable l (lane_time e) mem e

-- The times in e became those in f: on the processors of half h none is before the data of the line at a is there, by an edge of this
-- volume; none is before the data of edge a is there; none is before all data of t is there.
abbrev pub RaisedIn : Limits → ℕ → Bool → ℕ → ℕ → List ℕ → List Float → List Float → Type 0
RaisedIn l h late volume a mem e f =
    TimeTable l (λ p. if eqb (p / 8) h then later (lane_time e p) (arrival_in late volume p a mem) else lane_time e p) mem f

abbrev pub RaisedBy : Limits → ℕ → Bool → Edge → List ℕ → List Float → List Float → Type 0
RaisedBy l capacity late a mem e f = TimeTable l (λ p. later (lane_time e p) (arrival_in late a.volume p (row_of capacity a.from mem) mem)) mem f

abbrev pub Raised : Limits → ℕ → Bool → ℕ → List ℕ → List Float → List Float → Type 0
Raised l capacity late t mem e f = TimeTable l (λ p. later (lane_time e p) (data_in capacity late t p mem)) mem f

-- Where a table of ends has the first early and the last late finish of task t.
abbrev pub end_at : Bool → ℕ → ℕ
end_at late t = 2 * t + (if late then 1 else 0)

-- x is the first early, or the last late, time of the line at a.
abbrev pub EndOf : Limits → Bool → ℕ → List ℕ → Float → Type 0
EndOf l late a mem x = Held l.tick x × (time_of x ≡ choice_of late (times (row_outcomes late a (nth mem 3 + 1) mem)))

-- The table of ends has those of the tasks of the first k lines.
pub record Ended (l : Limits) (capacity k : ℕ) (mem : List ℕ) (ends : List Float) : Type 0 where
  pub size : 2 * nth mem 0 ≤ length ends
  pub end : (late : Bool) (i : ℕ) → i < k → EndOf l late (row_at capacity i) mem (lane ends (end_at late (nth mem (row_at capacity i))))

-- The ends of the line at a were noted for its task t, and nothing else.
pub record EndsPut (l : Limits) (a t : ℕ) (mem : List ℕ) (ends next : List Float) : Type 0 where
  pub size : length next ≡ length ends
  pub end : (late : Bool) → EndOf l late a mem (lane next (end_at late t))
  pub other : (u : ℕ) → (u ≡ t → ⊥) → (late : Bool) → lane next (end_at late u) ≡ lane ends (end_at late u)

-- The table has ends of the task that an edge leaves, and the edge is one of a job.
pub record EdgeEnds (l : Limits) (a : Edge) (ends : List Float) : Type 0 where
  pub from_most : a.from < 256
  pub volume_most : a.volume ≤ l.volume
  pub within : 2 * a.from + 1 < length ends
  pub held : (late : Bool) → Held l.tick (lane ends (end_at late a.from))

-- What is known of the predecessors of t, and of the times z at which processors are ready, early or late: each predecessor has a line
-- and its ends in the table, and no processor is ready before its own replica of a predecessor has finished.
pub record Supplied (l : Limits) (capacity t : ℕ) (z : Bool → ℕ → Time) (mem : List ℕ) (ends : List Float) : Type 0 where
  pub placed : PredecessorsPlaced capacity t mem
  pub size : 2 * nth mem 0 ≤ length ends
  pub end : (late : Bool) (a : Edge) → In a (incoming (job_in mem) t) → EndOf l late (row_of capacity a.from mem) mem (lane ends (end_at late a.from))
  pub behind : (late : Bool) (a : Edge) (c : ℕ) → In a (incoming (job_in mem) t) → c < nth mem 3 + 1
      → NoLater (time_in (nth mem (time_at late (row_of capacity a.from mem) c))) (z late (nth mem (processor_at (row_of capacity a.from mem) c)))

-- The times in two tables of lanes, early and late; those of two tables of ticks; those of the clocks.
abbrev pub lane_times : List Float → List Float → Bool → ℕ → Time
lane_times e f late p = lane_time (if late then f else e) p

abbrev pub tick_times : List ℕ → List ℕ → Bool → ℕ → Time
tick_times e f late p = tick (nth (if late then f else e) p)

abbrev pub clock_times : Clocks → Bool → ℕ → Time
clock_times clocks = tick_times clocks.early clocks.late

-- The early and the late ticks of the line at a are short.
abbrev pub BothShort : ℕ → List ℕ → Type 0
BothShort a mem = (c : ℕ) → c < nth mem 3 + 1 → (nth mem (early_at a c) ≤ last_short) × (nth mem (late_at a c) ≤ last_short)

-- Every predecessor of t has a line, with ticks that are short.
abbrev pub BothSupplied : ℕ → ℕ → List ℕ → Type 0
BothSupplied capacity t mem = (e : Edge) → In e (incoming (job_in mem) t) → (0 < nth mem (line_at capacity + e.from)) × BothShort (row_of capacity e.from mem) mem

-- The times of cells early, and never late.
abbrev pub ready_times : List ℕ → Bool → ℕ → Time
ready_times cells true p = never
ready_times cells false p = time_in (nth cells p)

-- Ticks that are short, one for each processor; those of the clocks.
abbrev pub ShortTicks : List ℕ → List ℕ → Type 0
ShortTicks mem e = (length e ≡ lanes_most) × ((p : ℕ) → p < nth mem 1 → nth e p ≤ last_short)

abbrev pub ShortClocks : Clocks → List ℕ → Type 0
ShortClocks clocks mem = ShortTicks mem clocks.early × ShortTicks mem clocks.late

-- The lanes of e hold ticks that a run leaves short.
abbrev pub TicksHeld : Limits → List ℕ → List Float → Type 0
TicksHeld l mem e = (p : ℕ) → p < nth mem 1 → Held (lane_most l) (lane e p) × ((x : ℕ) × (lane_time e p ≡ tick x) × (x ≤ last_arrival l))

-- The finishes of t on each processor, early in e and late in l, if they are ready at the ticks in x and in y.
pub record BothFinish (capacity t : ℕ) (x y mem e l : List ℕ) : Type 0 where
  pub early_size : length e ≡ lanes_most
  pub late_size : length l ≡ lanes_most
  pub early_finish : (p : ℕ) → p < nth mem 1 → tick (nth e p) ≡ after (run_time (job_in mem) t p) (later (tick (nth x p)) (data_in capacity false t p mem))
  pub late_finish : (p : ℕ) → p < nth mem 1 → tick (nth l p) ≡ after (run_time (job_in mem) t p) (later (tick (nth y p)) (data_in capacity true t p mem))
