use Rattle.lists.proofs.Prelude.{arith}
use Rattle.orders.proofs.SortingLaws.{sorting_none, sorting_most, sorting_entry}
use Rattle.orders.proofs.sorting.list_entries.Goals as goal

pub loop-t-init : goal.loop-t-init
loop-t-init c = sorting_none c.requires.0 c.requires.1

pub join-n-requires : goal.join-n-requires
join-n-requires c =
    let s = c.loop-t.invariant in
    let h = c.loop-t-test.true in
    (omega (arith, s.runs.size), h, omega (arith, h, sorting_most s))

pub loop-t-preserved : goal.loop-t-preserved
loop-t-preserved c = rw (c.join-n.ensures.0, c.join-n.ensures.1) (sorting_entry c.loop-t.invariant c.loop-t-test.true)
