use Rattle.lists.proofs.Prelude.{◌≡◌, refl, ◌<◌, ◌+◌, ◌*◌, min, arith, nth}
use Rattle.heads.specs.Layout.{largest_delay_at, processor_at, early_at, lanes_most}
use Rattle.rounds.proofs.TopLaws.{spread_none, sent_on, sent_little, spread_more}
use Rattle.rounds.proofs.priority.spread.Goals as goal

pub loop-c-init : goal.loop-c-init
loop-c-init c =
    let a = c.args in
    (omega arith, λ h. absurd (omega arith), spread_none a.house.capacity a.edge.volume a.edge.row a.house.mem.now)

pub bounds-mem-far : goal.bounds-mem-far
bounds-mem-far c =
    let near : c.replica_at-r.result.processor < lanes_most = let pre = c.requires in
    rw c.replica_at-r.ensures.0 (sent_on pre.0 pre.1 c.loop-c-test.true) in
    omega (arith, near, c.requires.0.size)

pub overflow_mul-volume : goal.overflow_mul-volume
overflow_mul-volume c =
    let pre = c.requires in
    rw (c.from-volume.ensures, c.replica_at-r.ensures.0) (omega (arith, sent_little pre.0 pre.1 c.loop-c-test.true))

pub overflow_add-r : goal.overflow_add-r
overflow_add-r c =
    let pre = c.requires in
    let k = c.loop-c-test.true in
    rw (c.from-volume.ensures, c.replica_at-r.ensures.0, c.replica_at-r.ensures.1) (omega (arith, sent_little pre.0 pre.1 k, pre.1.ticks _ k))

pub loop-c-preserved : goal.loop-c-preserved
loop-c-preserved c =
    let l = c.loop-c in
    let capacity = c.args.house.capacity in
    let mem = c.args.house.mem.now in
    let volume = c.args.edge.volume in
    let a = c.args.edge.row in
    let (on, early, _) = c.replica_at-r.ensures in
    let y = nth mem (early_at a l.c) + volume * nth mem (largest_delay_at capacity + nth mem (processor_at a l.c)) in
    let e : c.min-x.result ≡ min y l.x = rw (← on, ← early, ← c.from-volume.ensures) (omega (arith, c.min-x.ensures)) in
    let (f, m) = spread_more c.requires.0 c.requires.1 c.loop-c-test.true refl l.invariant.0 l.invariant.2 e in
    (omega (arith, m), λ h. m, f)
