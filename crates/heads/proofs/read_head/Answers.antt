-- The head's four numbers stand in front.
use Rattle.text.proofs.Refusals.{handed}
use Rattle.heads.proofs.HeadLaws.{job_long, job_no, job_refused, job_next}
use Rattle.heads.proofs.read_head.Goals as goal

pub returns-then-s-gt-TEXT_LENGTH : goal.returns-then-s-gt-TEXT_LENGTH
returns-then-s-gt-TEXT_LENGTH c = job_long _ _ c.if-s-gt-TEXT_LENGTH.true

pub returns-in_err-line : goal.returns-in_err-line
returns-in_err-line c =
    let read = rw c.new-reader.ensures at c.line.ensures.read in
    rw (handed _ _ c.from_residual.ensures.1) (job_no _ _ c.if-s-gt-TEXT_LENGTH.false _ c.line.new.vals _ read _ c.in_err-line.was)

pub returns-in_err-head_rule : goal.returns-in_err-head_rule
returns-in_err-head_rule c =
    let read = rw c.new-reader.ensures at c.line.ensures.read in
    rw (handed _ _ c.from_residual-in_err-head_rule.ensures.1)
    (job_refused _ _ c.if-s-gt-TEXT_LENGTH.false _ c.line.new.vals _ read _ c.in_ok-line.was c.head_rule.result c.head_rule.ensures _ c.in_err-head_rule.was)

pub returns : goal.returns
returns c =
    let read = rw c.new-reader.ensures at c.line.ensures.read in
    let (z, q) = job_next _ _ c.if-s-gt-TEXT_LENGTH.false _ c.line.new.vals _ read _ c.in_ok-line.was c.head_rule.result c.head_rule.ensures _ c.in_ok-head_rule.was in
    (z, rw c.rest.ensures q, rw (← c.rest.ensures, c.new-reader.ensures) at c.line.ensures.part)
