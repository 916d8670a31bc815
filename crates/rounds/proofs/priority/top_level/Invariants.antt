-- x is the largest time of the edges passed.
use Rattle.lists.proofs.Prelude.{◌≡◌, ◌≤◌, length, incoming, tick, document01}
use Rattle.rounds.specs.Planning.{spread_most}
use Rattle.orders.proofs.Walk.{Passed}
use Rattle.jobs.specs.Held.{job_in}
use Rattle.rounds.proofs.TimeLaws.{gathered}
use Rattle.rounds.proofs.TopLaws.{spreads}
use Rattle.rounds.proofs.priority.top_level.Given as goal

abbrev pub invariant-loop-cell : goal.invariant-loop-cell
invariant-loop-cell l =
    Passed 0 (length l.cell-items) l.cell-items (incoming (job_in l.house.mem.now) l.t) l.cell-index
    × (l.x ≤ spread_most document01)
    × (tick l.x ≡ gathered (spreads l.house.capacity l.house.mem.now) 0 l.cell-items l.cell-index)
