use Rattle.lists.proofs.Prelude.{◌≡◌, length, document01}
use Rattle.stops.proofs.StopLaws.{StopsUpTo}
use Rattle.stops.proofs.stops.read_stop_lines.Given as goal

abbrev pub invariant-loop-reader : goal.invariant-loop-reader
invariant-loop-reader l = record { size : length l.line ≡ 2; upto : StopsUpTo document01 l.initial.reader l.m l.least l.reader l.stops }

abbrev pub decreases-loop-reader : goal.decreases-loop-reader
decreases-loop-reader l = length l.reader
