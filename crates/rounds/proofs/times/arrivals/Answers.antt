use Rattle.lists.proofs.Prelude.{◌≡◌, refl, ◌∙◌, ◌<◌, ◌-◌, ◌+◌, arith, nth, document01}
use Rattle.jobs.proofs.Held.{sizes}
use Rattle.ticks.proofs.HeldLaws.{whole_holds, never_holds, zero_literal}
use Rattle.rounds.specs.Arrivals.{lane_most}
use Rattle.rounds.proofs.TimeTables.{offered_none, offered_next, offered_all}
use Rattle.rounds.proofs.times.arrivals.Goals as goal
use Rattle.rounds.proofs.times.arrivals.Goals.{In-loop-c}

-- The replica is one of the line.
of_line : (c : In-loop-c) → c.loop-c.c - 1 < nth c.args.mem.now 3 + 1
of_line c = omega (arith, c.loop-c.auto.c, c.loop-c-test.true)

pub overflow_step-c : goal.overflow_step-c
overflow_step-c c = let s = sizes c.requires.0.1 in omega arith

pub loop-c-init : goal.loop-c-init
loop-c-init c =
    let a = c.args in
    let zero = whole_holds 0 (lane_most document01) (omega arith) (omega arith) in
    rw (c.no_time-low.ensures, c.no_time-last.ensures, zero_literal)
    (offered_none c.requires.0.1 a.h a.edge.volume a.edge.row (nth a.mem.now 3 + 1) zero never_holds)

pub replica_at-x-requires : goal.replica_at-x-requires
replica_at-x-requires c = let s = sizes c.requires.0.1 in omega (arith, c.requires.3, of_line (goal.at.replica_at-x-requires c).In-loop-c)

pub loop-c-preserved : goal.loop-c-preserved
loop-c-preserved c =
    let p = c.requires in
    let l = c.loop-c in
    let k : l.c - 1 < nth c.args.mem.now 3 + 1 = of_line (goal.at.loop-c-preserved c).In-loop-c in
    let e : l.c ≡ l.c - 1 + 1 = omega (arith, c.loop-c-test.true) in
    let (on, early, late) = c.replica_at-x.ensures in
    let q = p.2.processor_of (l.c - 1) k in
    let (x, y) = c.lane_of-early.ensures in
    let (u, v) = c.lane_of-late.ensures in
    rw (c.lane_in-i.ensures, on) (offered_next p.0.1 c.args.h c.args.edge.volume c.args.edge.row (omega arith, omega arith) p.5 p.1 p.4 q
    (rw e at l.invariant) k refl (x, y ∙ rw early) (u, v ∙ rw late) (rw on at c.offer.ensures.first)
    (rw on at c.offer.ensures.last))

pub returns : goal.returns
returns c =
    let l = c.loop-c in
    let e : l.c ≡ 0 = omega (arith, c.loop-c-test.false) in
    offered_all c.requires.0.1 c.args.h c.args.edge.volume c.args.edge.row (rw e at l.invariant) c.raise.ensures c.lower.ensures
