-- The lanes before p hold the times of the cells.
use Rattle.lists.proofs.Prelude.{◌≡◌, ℕ, ◌≤◌, ◌<◌, length, nth, document01}
use Rattle.ticks.specs.Cells.{time_in}
use Rattle.ticks.specs.Floats.{lane}
use Rattle.ticks.proofs.HeldLaws.{Holds}
use Rattle.rounds.specs.Arrivals.{lane_most}
use Rattle.rounds.proofs.times.lanes_of.Given as goal

abbrev pub invariant-loop-p : goal.invariant-loop-p
invariant-loop-p l =
    (length l.times ≡ 16) × (l.p-end ≤ 16)
    × ((q : ℕ) → q < l.p → Holds (lane_most document01) (lane l.times q) (time_in (nth l.cells q)))
