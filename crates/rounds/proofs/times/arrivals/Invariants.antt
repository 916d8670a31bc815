-- From the last replica of the line to the first: those passed were offered to the processors of the half, and their own noted.
use Rattle.lists.proofs.Prelude.{◌+◌, nth, document01}
use Rattle.rounds.proofs.TimeTables.{Offered}
use Rattle.rounds.proofs.times.arrivals.Given as goal

abbrev pub invariant-loop-c : goal.invariant-loop-c
invariant-loop-c l = Offered document01 l.h l.edge.volume l.edge.row l.c (nth l.mem 3 + 1) l.mem l.low l.high l.first l.last
