-- The delays from the processors before q are in the table, and none is over the greatest.
use Rattle.lists.proofs.Prelude.{◌≤◌, ◌*◌, nth, document01}
use Rattle.heads.specs.Layout.{lanes_most}
use Rattle.rounds.specs.Arrivals.{DelaysTo}
use Rattle.rounds.proofs.times.Delays.fill.Given as goal

abbrev pub invariant-loop-q : goal.invariant-loop-q
invariant-loop-q l = (nth l.mem 1 ≤ lanes_most) × DelaysTo document01 l.mem (16 * l.q) l.self
