-- The row is read, then its rule is tried.
use Rattle.text.proofs.Refusals.{handed}
use Rattle.lists.proofs.Prelude.{sym, ◌∙◌, document01, line}
use Rattle.lines.proofs.LineLaws.{line_fits, line_judged, ruled_bad}
use Rattle.rows.specs.Rows.{rule_of}
use Rattle.rows.proofs.row.read_row.Goals as goal

pub returns : goal.returns
returns c = λ seen n.
    let formed = sym (c.in_ok-line.ensures.read ∙ line_fits _ _ _ _ _ c.requires.1) in
    line_judged (line document01 _ _) (rule_of document01 c.args.kind) seen _ _ _ formed c.check_row.result (c.check_row.ensures seen n)

pub returns-in_err-line : goal.returns-in_err-line
returns-in_err-line c = λ seen n.
    let bad = sym (c.in_err-line.ensures.read ∙ line_fits _ _ _ _ _ c.requires.1) in
    rw (handed _ _ c.from_residual.ensures.1) (ruled_bad (line document01 _ _) (rule_of document01 c.args.kind) seen _ _ bad)
