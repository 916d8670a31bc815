-- The delays from the processors before q, and those from q to the processors before p, are in the table, and none is over the greatest.
use Rattle.lists.proofs.Prelude.{◌≤◌, ◌*◌, ◌+◌, nth, document01}
use Rattle.heads.specs.Layout.{lanes_most}
use Rattle.rounds.specs.Arrivals.{DelaysTo}
use Rattle.rounds.proofs.times.Delays.fill_row.Given as goal

abbrev pub invariant-loop-p : goal.invariant-loop-p
invariant-loop-p l = (nth l.mem 1 ≤ lanes_most) × DelaysTo document01 l.mem (16 * l.q + l.p) l.self
