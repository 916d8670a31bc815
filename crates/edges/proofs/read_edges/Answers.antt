-- The edge lines that were read leave a part.
use Rattle.lists.proofs.Prelude.{document01}
use Rattle.lines.proofs.LeftLaws.{lines_part}
use Rattle.edges.proofs.EdgeLaws.{edge_leaves}
use Rattle.edges.proofs.read_edges.Goals as goal

pub returns-clause-part : goal.returns-clause-part
returns-clause-part c =
    let read = rw (c.new-rest.ensures, c.rest.ensures) at c.in_ok-fill_edges.ensures in
    lines_part _ _ (edge_leaves document01) _ _ _ _ _ read
