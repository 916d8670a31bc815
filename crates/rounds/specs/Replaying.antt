-- What the memory holds while a round is replayed: each replica's outcome stands where its early tick stood.
use Rattle.std.specs.Prelude.{◌≡◌, false, ℕ, suc, ◌+◌, ◌*◌, ◌<◌, ◌≤◌, length}
use mathlib.Core.List.{List, ◌++◌, map, reverse, reverse_aux}
use Rattle.definitions.specs.Lists.{nth, In}
use Rattle.definitions.specs.Limits.{Limits}
use Rattle.definitions.specs.Job.{Edge, Job, incoming}
use Rattle.definitions.specs.Stops.{Stop}
use Rattle.definitions.specs.Times.{least, Placement, Outcome, ready, stop_time, walk, placements_of}
use Rattle.definitions.specs.Shelf.{Settled}
use Rattle.definitions.specs.Replay.{replay, first_finish, first_processor}
use Rattle.definitions.specs.Claims.{PlacedWithin}
use Rattle.heads.specs.Layout.{line_at, replicas_most, row_at, largest_delay_at, processor_at, late_at, lanes_most}
use Rattle.jobs.specs.Held.{job_in}
use Rattle.jobs.specs.Tables.{line_ticks}
use Rattle.ticks.specs.Cells.{never_cell, time_in, Small}
use Rattle.plans.specs.Lines.{row_outcomes, placed_in, row_replicas, LinesHeld}
use Rattle.lists.specs.Kept.{KeptOutside}
use Rattle.plans.specs.Loading.{plan_in}

-- The stop times of a stop list are in the cells.
abbrev pub StopsIn : List Stop → List ℕ → Type 0
StopsIn ss cells = (p : ℕ) → p < lanes_most → time_in (nth cells p) ≡ stop_time ss p

-- The outcomes of the first k lines, and of the first c replicas of the next, newest first.
unfoldable pub ran_in : ℕ → ℕ → ℕ → List ℕ → List Outcome
ran_in capacity k c mem = row_outcomes false (row_at capacity k) c mem ++ placed_in capacity false (nth mem 3 + 1) k mem

-- k lines and c of the next have run, and the cells hold the processors' ready times after them.
pub record Running (l : Limits) (capacity k c : ℕ) (cells mem : List ℕ) : Type 0 where
  pub standing : LinesHeld l capacity (nth mem 0) mem
  pub size : length cells ≡ lanes_most
  pub ready_of : (p : ℕ) → p < nth mem 1 → time_in (nth cells p) ≡ ready (job_in mem) p (ran_in capacity k c mem)
  pub ready_small : (p : ℕ) → p < nth mem 1 → Small ((k * replicas_most + c) * line_ticks l) (nth cells p)
  pub within : PlacedWithin (job_in mem) ((k * replicas_most + c) * line_ticks l) (ran_in capacity k c mem)
  pub settled : Settled (job_in mem) (ran_in capacity k c mem)

-- Every predecessor of the task of line k has its line before it.
abbrev pub PredecessorsBefore : ℕ → ℕ → List ℕ → Type 0
PredecessorsBefore capacity k mem =
    (e : Edge) → In e (incoming (job_in mem) (nth mem (row_at capacity k))) → (0 < nth mem (line_at capacity + e.from)) × (nth mem (line_at capacity + e.from) ≤ k)

-- In the lines from k to below n early times changed, and nothing else.
pub record Retimed (capacity k n : ℕ) (d e : List ℕ) : Type 0 where
  pub outside : KeptOutside (row_at capacity k) (row_at capacity n) d e
  pub task : (i : ℕ) → nth e (row_at capacity i) ≡ nth d (row_at capacity i)
  pub processor : (i c : ℕ) → c < replicas_most → nth e (processor_at (row_at capacity i) c) ≡ nth d (processor_at (row_at capacity i) c)
  pub late : (i c : ℕ) → c < replicas_most → nth e (late_at (row_at capacity i) c) ≡ nth d (late_at (row_at capacity i) c)

-- The replicas of the first c of line k.
unfoldable pub placements_in : ℕ → ℕ → ℕ → List ℕ → List Placement
placements_in capacity k c mem = placements_of (job_in mem) (nth mem (row_at capacity k)) (map (λ r. r.processor) (row_replicas (row_at capacity k) c mem))

-- The outcomes after more replicas have run, newest first.
unfoldable pub walked : Job → List Stop → List Outcome → List Placement → List Outcome
walked j ss placed cs = reverse_aux (walk j least ss placed cs) placed

-- Line k has run under the stops in the cells.
pub record LineRun (capacity k : ℕ) (stops d e : List ℕ) : Type 0 where
  pub retimed : Retimed capacity k (suc k) d e
  pub outcomes : (ss : List Stop) → StopsIn ss stops
      → placed_in capacity false (nth e 3 + 1) (suc k) e ≡ walked (job_in d) ss (placed_in capacity false (nth d 3 + 1) k d) (placements_in capacity k (nth d 3 + 1) d)

-- The outcomes of all lines, newest first.
abbrev pub outcomes_in : ℕ → List ℕ → List Outcome
outcomes_in capacity mem = placed_in capacity false (nth mem 3 + 1) (nth mem 0) mem

-- The processors of a line do not descend.
abbrev pub RisingIn : ℕ → List ℕ → Type 0
RisingIn capacity mem = (i c : ℕ) → i < nth mem 0 → c < nth mem 3 → nth mem (processor_at (row_at capacity i) c) ≤ nth mem (processor_at (row_at capacity i) (c + 1))

-- All lines have run under the stops in the cells.
pub record RoundRun (l : Limits) (capacity : ℕ) (stops d e : List ℕ) : Type 0 where
  pub outside : KeptOutside (row_at capacity 0) (largest_delay_at capacity) d e
  pub standing : LinesHeld l capacity (nth e 0) e
  pub rising : RisingIn capacity e
  pub outcomes : (ss : List Stop) → StopsIn ss stops → outcomes_in capacity e ≡ reverse (replay (job_in d) ss (plan_in capacity d).lines)

-- The first finish of t, and the lowest processor that has it.
pub record FirstIn (capacity t time processor : ℕ) (mem : List ℕ) : Type 0 where
  pub finish : time_in time ≡ first_finish t (outcomes_in capacity mem)
  pub lowest_on : (time ≡ never_cell → ⊥) → processor ≡ first_processor t (time_in time) (outcomes_in capacity mem)
