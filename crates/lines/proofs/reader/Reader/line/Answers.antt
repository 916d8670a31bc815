use Rattle.lines.proofs.LeftLaws.{line_part}
use Rattle.lines.proofs.reader.Reader.line.Goals as goal

pub returns-clause-part : goal.returns-clause-part
returns-clause-part c = rw (← c.self.view_is) (line_part _ _ _ _ _ _ _ c.in_ok-p.ensures.result_value c.in_ok-self-inside.ensures.0)
