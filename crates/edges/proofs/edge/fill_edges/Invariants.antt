-- The edges that were read, before edge i, ascend, and are the front of the lines.
use Rattle.lists.proofs.Prelude.{map, take, document01, edge_line, edge_rule, Ascends}
use Rattle.lines.proofs.LineLaws.{LinesUpTo}
use Rattle.orders.specs.Edges.{edge_in}
use Rattle.edges.proofs.edge.fill_edges.Given as goal

abbrev pub invariant-loop-i : goal.invariant-loop-i
invariant-loop-i l =
    Ascends (map edge_in (take l.i l.mem)) × LinesUpTo (edge_line document01) (edge_rule document01 l.v) l.initial.reader l.n l.i (map edge_in (take l.i l.mem)) l.reader
