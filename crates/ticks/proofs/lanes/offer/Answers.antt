use Rattle.ticks.proofs.LaneLaws.{lanes_none, lanes_next}
use Rattle.ticks.proofs.lanes.offer.Goals as goal

pub loop-p-init : goal.loop-p-init
loop-p-init c = (lanes_none _ _, lanes_none _ _)

pub loop-p-preserved : goal.loop-p-preserved
loop-p-preserved c =
    let l = c.loop-p in (
      lanes_next _ _ l.p c.lesser.result l.invariant.0 (rw c.arrival-e.ensures at c.lesser.ensures),
      lanes_next _ _ l.p c.greater.result l.invariant.1 (rw c.arrival-l.ensures at c.greater.ensures),
    )
