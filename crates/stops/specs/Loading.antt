-- What the cells hold after a stop list was read.
use Rattle.std.specs.Prelude.{◌≡◌, ℕ, ◌<◌, ltb, length, if◌then◌else◌, Result}
use mathlib.Core.List.{List, get_last?}
use Rattle.definitions.specs.Lists.{nth}
use Rattle.definitions.specs.Limits.{Limits}
use Rattle.definitions.specs.Text.{Reader, lines_to_end, good, bad}
use Rattle.definitions.specs.Text as Text
use Rattle.definitions.specs.Job.{Job}
use Rattle.definitions.specs.Stops.{Stop, stop_line, stop_rule, read_stops}
use Rattle.definitions.specs.Times.{stop_time}
use Rattle.definitions.specs.Facts.{after_last}
use Rattle.text.specs.declared.refusal.Refusal.{Refusal}
use Rattle.text.specs.Numbers.{result_of}
use Rattle.ticks.specs.Cells.{time_in, Small}

-- A stop list's text for a job, if there are so many cells: 8 if they are fewer than the processors.
unfoldable pub stops_from : Limits → ℕ → Job → List ℕ → Text.Result (List Stop)
stops_from l size j s = if ltb size j.processors then bad 8 else read_stops l j s

-- At most n stop lines to the end of a text, after those in `seen`.
abbrev pub stop_lines : Limits → Job → ℕ → List Stop → Reader (List Stop)
stop_lines l j = lines_to_end (stop_line l) (stop_rule l j)

-- The number x is that of the rule of a stop line, or 0, for m processors, of which those from `least` on may come.
abbrev pub StopRuled : Limits → ℕ → ℕ → Stop → ℕ → Type 0
StopRuled l m least s x = (j : Job) (seen : List Stop) → j.processors ≡ m → after_last (get_last? seen) ≡ least → x ≡ stop_rule l j seen s

-- The stop tick of each processor is in its cell, never in all others; or the refusal.
abbrev pub StopsLoaded : Limits → Text.Result (List Stop) → List ℕ → Result (Unit {0}) Refusal → Type 0
StopsLoaded l (good ss) cells r =
    (result_of r ≡ good tt)
    × ((p : ℕ) → p < length cells → (time_in (nth cells p) ≡ stop_time ss p) × Small l.tick (nth cells p))
StopsLoaded l (bad n) cells r = result_of r ≡ bad n
