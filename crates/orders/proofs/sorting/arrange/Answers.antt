use Rattle.lists.proofs.Prelude.{◌≡◌, arith}
use Rattle.orders.proofs.CircleLaws.{linked_all, linked_joined, linked_circle}
use Rattle.orders.proofs.SortingLaws.{sorting_most, sorting_done}
use Rattle.orders.proofs.sorting.arrange.Goals as goal

pub overflow_add-i : goal.overflow_add-i
overflow_add-i c = omega (arith, sorting_most c.loop-i.invariant)

pub loop-i-smaller : goal.loop-i-smaller
loop-i-smaller c = omega (arith, sorting_most c.loop-i.invariant)

pub returns-then-n-v : goal.returns-then-n-v
returns-then-n-v c before =
    let s = c.loop-i.invariant in
    let e : c.loop-i.i ≡ c.loop-i.n = omega (arith, s.most) in
    linked_circle c.args.v c.args.edges.now before _ c.requires.2 (sorting_done (rw e at s)) (omega arith)

pub returns : goal.returns
returns c before =
    let s = c.loop-i.invariant in
    let e : c.loop-i.i ≡ c.loop-i.n = omega (arith, s.most) in
    linked_joined c.args.v c.args.edges.now before _ c.requires.2 (linked_all s.runs (sorting_done (rw e at s)) (omega arith))
