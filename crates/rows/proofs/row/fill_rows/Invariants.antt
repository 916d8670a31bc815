-- The rows that were read, before row i, are the front of the lines.
use Rattle.lists.proofs.Prelude.{document01, line}
use Rattle.lines.proofs.LineLaws.{LinesUpTo}
use Rattle.rows.specs.Rows.{rows, rule_of}
use Rattle.rows.proofs.row.fill_rows.Given as goal

abbrev pub invariant-loop-i : goal.invariant-loop-i
invariant-loop-i l = LinesUpTo (line document01 l.opening l.k) (rule_of document01 l.kind) l.initial.reader l.n l.i (rows l.k l.i l.mem) l.reader
