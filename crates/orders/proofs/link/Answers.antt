use Rattle.lists.proofs.Prelude.{◌≡◌, true, false, refl, arith, length}
use Rattle.orders.specs.Links.{ascending}
use Rattle.orders.proofs.CircleLaws.{linked_joined}
use Rattle.orders.proofs.PairLaws.{ascending_parts, linkable_few, linkable_rest}
use Rattle.orders.proofs.link.Goals as goal

pub returns-then-v-links : goal.returns-then-v-links
returns-then-v-links c = rw (linkable_few c.args.v c.args.edges.now (length c.args.links.now) (omega arith)) (refl, refl)

pub returns-then-edges-links : goal.returns-then-edges-links
returns-then-edges-links c = rw (linkable_few c.args.v c.args.edges.now (length c.args.links.now) (omega arith)) (refl, refl)

pub returns-then-not-ascending : goal.returns-then-not-ascending
returns-then-not-ascending c =
    let args = c.args in
    let o : ascending args.v 0 args.edges.now ≡ false = cc in
    rw (linkable_rest args.v args.edges.now (length args.links.now) (omega arith), o) (refl, refl)

pub make_runs-requires : goal.make_runs-requires
make_runs-requires c =
    let (w, a) = ascending_parts c.args.v 0 c.args.edges.now (cc) in
    (omega arith, w, a)

pub number-requires : goal.number-requires
number-requires c = let r = c.make_runs.ensures in (r.0, r.2 c.if-make_runs.true)

pub returns-then-make_runs : goal.returns-then-make_runs
returns-then-make_runs c =
    let args = c.args in
    let o : ascending args.v 0 args.edges.now ≡ true = cc in
    rw (linkable_rest args.v args.edges.now (length args.links.now) (omega arith), o)
    (linked_joined args.v args.edges.now args.links.now _ (ascending_parts args.v 0 args.edges.now o).0 c.number.ensures)

pub arrange-requires : goal.arrange-requires
arrange-requires c =
    let runs = c.make_runs.ensures in
    (runs.0, runs.1, (ascending_parts c.args.v 0 c.args.edges.now (cc)).0)

pub returns : goal.returns
returns c =
    let args = c.args in
    let o : ascending args.v 0 args.edges.now ≡ true = cc in
    rw (linkable_rest args.v args.edges.now (length args.links.now) (omega arith), o) (c.arrange.ensures args.links.now)
