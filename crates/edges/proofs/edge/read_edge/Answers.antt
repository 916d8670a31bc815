-- The edge is read, then its rule is tried; its cell is put behind the others.
use Rattle.text.proofs.Refusals.{handed}
use Rattle.lists.proofs.Prelude.{refl, ap, arith, get_or-set_same, edge_of}
use lib.Seq.{take-set-le}
use Rattle.text.specs.Suited.{suited}
use Rattle.text.specs.Meaning.{due_of}
use Rattle.edges.proofs.EdgeLaws.{edge_of_cell, edge_bad, edge_judged}
use Rattle.edges.proofs.edge.read_edge.Goals as goal

pub returns-in_err-line : goal.returns-in_err-line
returns-in_err-line c =
    (refl, rw (handed _ _ c.from_residual.ensures.1) (edge_bad _ _ _ _ _ c.line.new.vals _ c.line.ensures.read _ c.in_err-line.was))

pub returns-in_err-check_edge : goal.returns-in_err-check_edge
returns-in_err-check_edge c =
    let judged = edge_judged _ _ _ _ _ c.line.new.vals _ c.line.ensures.read _ c.in_ok-line.was c.check_edge.result c.check_edge.ensures.0 in
    (refl, rw (handed _ _ c.from_residual-in_err-check_edge.ensures.1) (rw c.in_err-check_edge.was at judged))

pub returns : goal.returns
returns c =
    let ys = c.line.new.vals in
    let h = c.check_edge.ensures.1 (ap due_of c.in_ok-check_edge.was) in
    let k = edge_of_cell _ suited _ (edge_of ys) c.requires.0 h.0 h.1 in
    let judged = edge_judged _ _ _ _ _ ys _ c.line.ensures.read _ c.in_ok-line.was c.check_edge.result c.check_edge.ensures.0 in
    (take-set-le c.args.i _ c.args.i _ (omega arith), rw (get_or-set_same _ _ c.cell_of.result 0 c.requires.1, c.cell_of.ensures, k) (rw c.in_ok-check_edge.was at judged))
