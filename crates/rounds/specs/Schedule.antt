-- What a working memory holds: a job, the lines of a plan, times, links between edges.
use Rattle.std.specs.Prelude.{◌≡◌, List, map, Bool, true, false, ℕ, ◌+◌, ◌*◌, ◌<◌, ◌≤◌}
use Rattle.definitions.specs.Lists.{nth, below, greatest, In}
use Rattle.definitions.specs.Limits.{Limits}
use Rattle.definitions.specs.Job.{Edge, incoming}
use Rattle.definitions.specs.Times.{Time, after, least, largest, arrival, data_ready}
use Rattle.definitions.specs.Planner.{largest_delay, bottom_levels}
use Rattle.jobs.specs.Held.{job_in}
use Rattle.plans.specs.Lines.{row_outcomes, placed_in, row_of}
use Rattle.jobs.specs.Tables.{line_ticks}
use Rattle.heads.specs.Layout.{level_at, line_at, largest_delay_at, row_at, early_at, late_at}

-- The choice among a predecessor's replicas: the least early, the largest late.
abbrev pub choice_of : Bool → List Time → Time
choice_of true = largest
choice_of false = least

-- An edge of this volume from the task whose line is at a.
abbrev pub edge_from : ℕ → ℕ → List ℕ → Edge
edge_from volume a mem = record { from = nth mem a; to = 0; volume = volume }

-- When its data is on p, by the replicas of that line that feed p: the least early, the largest late.
abbrev pub arrival_in : Bool → ℕ → ℕ → ℕ → List ℕ → Time
arrival_in late volume p a mem = arrival (job_in mem) (choice_of late) (row_outcomes late a (nth mem 3 + 1) mem) p (edge_from volume a mem)

-- How many lines stand: the greatest line of a task.
abbrev pub line_count : ℕ → List ℕ → ℕ
line_count capacity mem = greatest (map (λ t. nth mem (line_at capacity + t)) (below (nth mem 0)))

-- When all data of t is on p, by the lines that stand.
unfoldable pub data_in : ℕ → Bool → ℕ → ℕ → List ℕ → Time
data_in capacity late t p mem = data_ready (job_in mem) (choice_of late) (placed_in capacity late (nth mem 3 + 1) (line_count capacity mem) mem) t p

-- The ticks of the first k lines do not pass what k lines add up to.
abbrev pub ShortTo : Limits → ℕ → ℕ → List ℕ → Type 0
ShortTo l capacity k mem =
    (i c : ℕ) → i < k → c < nth mem 3 + 1
    → (nth mem (early_at (row_at capacity i) c) ≤ k * line_ticks l) × (nth mem (late_at (row_at capacity i) c) ≤ k * line_ticks l)

-- Every predecessor of t has a line.
abbrev pub PredecessorsPlaced : ℕ → ℕ → List ℕ → Type 0
PredecessorsPlaced capacity t mem = (e : Edge) → In e (incoming (job_in mem) t) → 0 < nth mem (line_at capacity + e.from)

-- The top level of t, unscaled: from the lines of its predecessors and the table of largest delays.
unfoldable pub top_in : ℕ → ℕ → List ℕ → Time
top_in capacity t mem =
    largest
    (map (λ e. least (map (λ d. after (e.volume * nth mem (largest_delay_at capacity + d.processor)) d.time) (row_outcomes false (row_of capacity e.from mem) (nth mem 3 + 1) mem)))
    (incoming (job_in mem) t))

-- The table of largest delays is filled.
abbrev pub LargestDelaysFilled : ℕ → List ℕ → Type 0
LargestDelaysFilled capacity mem = (p : ℕ) → p < nth mem 1 → nth mem (largest_delay_at capacity + p) ≡ largest_delay (job_in mem) p

-- Bottom levels are filled.
abbrev pub LevelsFilled : ℕ → List ℕ → Type 0
LevelsFilled capacity mem = (t : ℕ) → t < nth mem 0 → nth mem (level_at capacity + t) ≡ nth (bottom_levels (job_in mem)) t
