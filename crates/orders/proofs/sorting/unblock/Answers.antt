use Rattle.lists.proofs.Prelude.{arith, ◌-◌}
use Rattle.orders.proofs.SortingLaws.{sorting_most, sorting_begin, sorting_last, sorting_least, sorting_next}
use Rattle.orders.proofs.Walk.{pass_none}
use Rattle.orders.proofs.sorting.unblock.Goals as goal

pub loop-k-init : goal.loop-k-init
loop-k-init c =
    let pre = c.requires in
    let t = c.task_at-t in
    let r = c.leaving-run in
    sorting_begin pre.1 pre.2 t.result r.result.start r.result.end t.ensures r.ensures.0 r.ensures.1

pub release-count-requires : goal.release-count-requires
release-count-requires c =
    let loop = c.loop-k in
    let (below, s) = sorting_last c.leaving-run.result.start loop.k (loop.k - 1) c.requires.0 (omega arith) (omega arith) (omega arith) loop.invariant.2 in
    (omega (arith, s.runs.size), omega (arith, c.edge_to.ensures.0, below), sorting_most s, rw c.edge_to.ensures.0 (sorting_least below s))

pub loop-k-preserved : goal.loop-k-preserved
loop-k-preserved c =
    let loop = c.loop-k in
    let (below, s) = sorting_last c.leaving-run.result.start loop.k (loop.k - 1) c.requires.0 (omega arith) (omega arith) (omega arith) loop.invariant.2 in (
      omega arith,
      omega arith,
      rw (c.release-count.ensures.0, c.release-count.ensures.1, c.edge_to.ensures.0) (sorting_next below s),
    )

pub returns : goal.returns
returns c =
    let loop = c.loop-k in
    rw (pass_none c.leaving-run.result.start c.args.edges.now loop.k (omega arith)) at loop.invariant.2
