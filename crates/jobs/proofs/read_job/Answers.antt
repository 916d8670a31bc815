-- The head is read, and the rest by way of a memory.
use Rattle.jobs.specs.Answers.{job_answer}
use Rattle.jobs.proofs.AnswerLaws.{answered_err}
use Rattle.jobs.proofs.read_job.Goals as goal

pub returns-in_err-job : goal.returns-in_err-job
unfolding job_answer
returns-in_err-job c = answered_err _ _ _ _ c.from_residual.ensures.1 (rw c.in_err-job.ensures)

pub returns : goal.returns
unfolding job_answer
returns c = rw c.in_ok-job.ensures.1 c.in_memory.ensures
