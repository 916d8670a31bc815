-- Each number by its law.
use Rattle.std.proofs.Common.{rules}
use Rattle.stops.proofs.StopLaws.{stop_astray, stop_order, stop_good}
use Rattle.stops.proofs.stops.check_stop.Goals as goal

pub returns-then-processor-m : goal.returns-then-processor-m
returns-then-processor-m c = (λ j seen p q. stop_astray _ j seen _ p q c.then-processor-m.either, λ z. absurd cc)

pub returns-then-processor-least : goal.returns-then-processor-least
returns-then-processor-least c = (λ j seen p q. stop_order _ j seen _ p q c.if-processor-m.false c.if-tick-gt-TICK.false c.if-processor-least.true, λ z. absurd cc)

pub returns : goal.returns
returns c = (λ j seen p q. stop_good _ j seen _ p q c.if-processor-m.false c.if-tick-gt-TICK.false c.if-processor-least.false, search rules)
