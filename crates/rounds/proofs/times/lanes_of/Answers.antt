use Rattle.lists.proofs.Prelude.{refl, arith, length-set, nth, document01}
use Rattle.ticks.specs.Cells.{time_in}
use Rattle.ticks.proofs.HeldLaws.{Holds, held_more}
use Rattle.jobs.proofs.Held.{sizes}
use Rattle.rounds.specs.Arrivals.{lane_most}
use Rattle.rounds.proofs.LaneLoops.{each_lane}
use Rattle.rounds.proofs.times.lanes_of.Goals as goal

pub loop-p-init : goal.loop-p-init
loop-p-init c = (refl, (sizes c.requires.0.1).lanes_fit, λ q h. absurd (omega arith))

pub loop-p-preserved : goal.loop-p-preserved
loop-p-preserved c =
    let l = c.loop-p in
    let (n, few, done) = l.invariant in
    let more = c.loop-p-test.true in
    let cells = c.args.cells.now in
    let (h, e) = c.lane_of.ensures in (
      simp length-set n,
      few,
      each_lane (λ q z. Holds (lane_most document01) z (time_in (nth cells q))) l.times l.p _ (omega (arith, more)) done
          (held_more (omega arith) h, e),
    )
