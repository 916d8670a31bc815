use Rattle.lists.proofs.Prelude.{refl, true, false, ◌<◌, arith, false≢true}
use Rattle.jobs.proofs.Held.{sizes}
use Rattle.rounds.proofs.AgreeLaws.{finishes_asked, short_next, compared_none, cells_within, processor_most, compared_not, compared_next, compared_all}
use Rattle.rounds.proofs.checker.line_agrees.Goals as goal
use Rattle.rounds.proofs.checker.line_agrees.Goals.{then-from-x-via-then-from-x, then-from-x-via-else-from-x+then-from-x-2}

pub finishes-finishes-requires : goal.finishes-finishes-requires
finishes-finishes-requires c =
    let pre = c.requires in
    let (task, both, clocks, supplied) = finishes_asked pre.0 _ pre.3 pre.4 pre.2 pre.5 pre.6 in
    rw c.row_at-a.ensures ((_, pre.0.standing), pre.1, task, both, clocks.0, clocks.1, supplied, pre.7)

pub overflow_add-c-end : goal.overflow_add-c-end
overflow_add-c-end c = let s = sizes c.requires.0.standing.job in omega arith

pub loop-c-init : goal.loop-c-init
loop-c-init c =
    let pre = c.requires in
    compared_none pre.0 pre.3 pre.5 c.row_at-a.ensures c.finishes-finishes.ensures

pub replica_at-x-requires : goal.replica_at-x-requires
replica_at-x-requires c = cells_within c.loop-c.invariant c.loop-c-test.true

pub offset_bounds-finishes-p : goal.offset_bounds-finishes-p
offset_bounds-finishes-p c =
    let lane : c.replica_at-x.result.processor < 16 = processor_most c.loop-c.invariant c.loop-c-test.true c.replica_at-x.ensures.0 in
    omega (arith, lane)

pub bounds-finishes-p : goal.bounds-finishes-p
bounds-finishes-p c = processor_most c.loop-c.invariant c.loop-c-test.true c.replica_at-x.ensures.0

pub offset_bounds-finishes-p-else-from-x : goal.offset_bounds-finishes-p-else-from-x
offset_bounds-finishes-p-else-from-x c =
    let lane : c.replica_at-x.result.processor < 16 = processor_most c.loop-c.invariant c.loop-c-test.true c.replica_at-x.ensures.0 in
    omega (arith, lane)

pub bounds-finishes-p-else-from-x : goal.bounds-finishes-p-else-from-x
bounds-finishes-p-else-from-x c = processor_most c.loop-c.invariant c.loop-c-test.true c.replica_at-x.ensures.0

pub returns-then-from-x : goal.returns-then-from-x
returns-then-from-x c =
    let (on, early, late) = c.replica_at-x.ensures in (
      λ z. absurd (false≢true z),
      λ a. absurd (elim c.then-from-x.branch [
        | then-from-x-via-then-from-x w ↦
            compared_not c.loop-c.invariant c.loop-c-test.true on false _ early (rw c.from.ensures at w.if-from-x.true) a
        | then-from-x-via-else-from-x+then-from-x-2 w ↦
            compared_not c.loop-c.invariant c.loop-c-test.true on true _ late (rw w.from-else-from-x.ensures at w.if-from-x-2.true) a
      ]),
    )

pub loop-c-preserved : goal.loop-c-preserved
loop-c-preserved c =
    let (on, early, late) = c.replica_at-x.ensures in
    let same = rw c.from.ensures at c.if-from-x.false in
    let still = rw c.from-else-from-x.ensures at c.if-from-x-2.false in
    compared_next c.loop-c.invariant c.loop-c-test.true on _ _ early late same still

pub returns : goal.returns
returns c =
    let pre = c.requires in
    let a = compared_all c.loop-c.invariant (omega arith) in
    (λ z. (a, short_next pre.0 _ pre.3 pre.4 a), λ b. refl)
