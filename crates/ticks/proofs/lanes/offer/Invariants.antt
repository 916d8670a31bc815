-- The lanes before p are done, in both tables.
use Rattle.lists.proofs.Prelude.{◌≡◌, ◌+◌, nth}
use Rattle.ticks.specs.Lanes as Lanes
use Rattle.ticks.specs.Lanes.{lanes, sent, delay_at}
use Rattle.ticks.proofs.lanes.offer.Given as goal

abbrev pub invariant-loop-p : goal.invariant-loop-p
invariant-loop-p l =
    (l.low ≡ lanes (λ i z. Lanes.lesser (sent l.x l.volume (nth l.delays (delay_at l.q l.h + i))) z) l.p l.initial.low)
    × (l.high ≡ lanes (λ i z. Lanes.greater z (sent l.y l.volume (nth l.delays (delay_at l.q l.h + i)))) l.p l.initial.high)
