-- The cells are cleared, then the lines are read.
use Rattle.lists.proofs.Prelude.{arith}
use Rattle.stops.proofs.StopLaws.{stops_short, stops_long, stops_whole}
use Rattle.stops.proofs.load_stops.Goals as goal

pub returns-then-stops-m : goal.returns-then-stops-m
returns-then-stops-m c = λ j e. stops_short _ _ _ _ j (omega (arith, e, c.if-stops-m.true))

pub returns-then-s-gt-TEXT_LENGTH : goal.returns-then-s-gt-TEXT_LENGTH
returns-then-s-gt-TEXT_LENGTH c = λ j e. stops_long _ _ _ _ j (omega (arith, e, c.if-stops-m.false)) c.if-s-gt-TEXT_LENGTH.true

pub returns : goal.returns
returns c = λ j e.
    stops_whole _ _ _ _ j (omega (arith, e, c.if-stops-m.false)) _ c.if-s-gt-TEXT_LENGTH.false (rw c.new.ensures at (c.read_stop_lines.ensures j e))
