use Rattle.jobs.proofs.AnswerLaws.{answered_err}
use Rattle.definitions.specs.Tools.{plan_answer}
use Rattle.mirguneth.proofs.plan.Goals as goal

pub returns-in_err-read_head : goal.returns-in_err-read_head
unfolding plan_answer
returns-in_err-read_head c = answered_err _ _ _ _ c.from_residual.ensures.1 (rw c.in_err-read_head.ensures)

pub returns : goal.returns
unfolding plan_answer
returns c = rw c.in_ok-read_head.ensures.1 c.answer.ensures
