-- What the table of bottom levels holds while it is filled.
use Rattle.std.specs.Prelude.{List, map, ℕ, ◌+◌, ◌*◌}
use Rattle.definitions.specs.Lists.{nth, below, sum}
use Rattle.definitions.specs.Limits.{Limits}
use Rattle.definitions.specs.Job.{Edge}
use Rattle.definitions.specs.Planner.{total_delay}
use Rattle.heads.specs.Layout.{level_at}
use Rattle.jobs.specs.Held.{number_at, job_in}
use Rattle.jobs.specs.Tables.{message_most, line_ticks}

-- What the sum of a row is at most, of the C lines or of the D lines.
abbrev pub row_most : Limits → ℕ
row_most l = l.processors * (l.run_time + l.delay)

-- What a task's scaled run times are at most, and a scaled message.
abbrev pub scaled_most : Limits → ℕ
scaled_most l = l.processors * l.processors * l.run_time

abbrev pub sent_most : Limits → ℕ
sent_most l = l.processors * l.processors * message_most l

-- What a bottom level is at most: for each task a run and a message, scaled.
abbrev pub level_most : Limits → ℕ
level_most l = l.tasks * (l.processors * l.processors * line_ticks l)

-- The sum of the numbers of row r, of the C lines and then of the D lines.
abbrev pub row_sum : List ℕ → ℕ → ℕ
row_sum mem r = sum (map (λ q. nth mem (number_at mem r q)) (below (nth mem 1)))

-- An edge's scaled message and its successor's level.
abbrev pub sent : ℕ → List ℕ → Edge → ℕ
sent capacity mem e = e.volume * total_delay (job_in mem) + nth mem (level_at capacity + e.to)
