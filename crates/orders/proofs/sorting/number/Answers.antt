use Rattle.lists.proofs.Prelude.{◌+◌, ◌*◌, refl, arith}
use Rattle.lists.proofs.Upward.{table_more}
use Rattle.orders.specs.Links.{order_at}
use Rattle.orders.proofs.CircleLaws.{numbered}
use Rattle.orders.proofs.SortingLaws.{runs_set}
use Rattle.orders.proofs.sorting.number.Goals as goal

pub loop-t-preserved : goal.loop-t-preserved
loop-t-preserved c =
    let v = c.args.v in
    let l = c.loop-t in
    let h = c.loop-t-test.true in
    rw c.at.ensures (
      runs_set l.invariant.0 (order_at v l.t) l.t (omega arith) (omega arith),
      table_more (λ s. s) l.links (2 * (v + 1)) l.t l.t l.invariant.1 (omega arith) refl,
    )

pub returns : goal.returns
returns c = numbered c.loop-t.invariant.0 c.requires.1 (λ t h. c.loop-t.invariant.1 t (omega arith))
