use Rattle.text.proofs.Refusals.{handed}
use Rattle.lists.proofs.Prelude.{◌≡◌, sym, arith}
use Rattle.lines.proofs.LineLaws.{lines_refused, lines_more, lines_read}
use Rattle.edges.proofs.EdgeLaws.{edges_more, edge_passed}
use Rattle.edges.proofs.edge.fill_edges.Goals as goal

pub returns-in_err-read_edge : goal.returns-in_err-read_edge
returns-in_err-read_edge c =
    rw (handed _ _ c.from_residual.ensures.1) (lines_refused c.loop-i.invariant.1 c.loop-i-test.true _ _ c.read_edge.ensures.1 c.in_err-read_edge.was)

pub loop-i-preserved : goal.loop-i-preserved
loop-i-preserved c =
    let loop = c.loop-i in
    let q = edges_more c.read_edge.new.mem loop.i (omega arith) in (
      rw (q, c.read_edge.ensures.0) (edge_passed _ _ _ _ _ _ loop.invariant.0 (sym c.in_ok-read_edge.ensures.1)),
      rw (q, c.read_edge.ensures.0) (lines_more loop.invariant.1 c.loop-i-test.true _ _ c.read_edge.ensures.1 c.in_ok-read_edge.was),
    )

pub returns : goal.returns
returns c =
    let e : c.args.n ≡ c.loop-i.i = omega arith in
    rw (← e) at (lines_read c.loop-i.invariant.1 c.loop-i-test.false)
