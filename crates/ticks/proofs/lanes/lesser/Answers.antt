-- Kept: the check finds these alone; with them the edit `later_offer` is refused by the two times, and not by a search that gives up.
use Rattle.ticks.proofs.lanes.lesser.Goals as goal

pub returns-then-x-y : goal.returns-then-x-y
returns-then-x-y c = rw c.if-x-y.true

pub returns-else-x-y : goal.returns-else-x-y
returns-else-x-y c = rw c.if-x-y.false
