use Rattle.lists.proofs.Prelude.{◌≡◌, ◌+◌, arith, add-zero}
use Rattle.ticks.proofs.LaneLaws.{lanes_next}
use Rattle.ticks.proofs.lanes.merge.Goals as goal

pub loop-p-init : goal.loop-p-init
loop-p-init g c h xs made e = rw (add-zero c.args.a) e

pub loop-p-preserved : goal.loop-p-preserved
loop-p-preserved g c h xs made e =
    let l = c.loop-p in
    let next : c.args.a + (l.p + 1) ≡ c.args.a + l.p + 1 = omega arith in
    rw next (lanes_next h xs (c.args.a + l.p) c.f.result (l.invariant h xs made e) (made l.p _ _ c.loop-p-test.true c.f.ensures))

pub returns : goal.returns
returns g c h xs made e =
    let l = c.loop-p in
    let all : l.p ≡ 8 = omega arith in
    rw all at (l.invariant h xs made e)
