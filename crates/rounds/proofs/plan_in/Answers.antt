-- What load_job left in the memories is a job and its links, if it was not refused.
use Rattle.lists.proofs.Prelude.{refl, document01}
use Rattle.jobs.proofs.Loads.{loaded_job, refused_job}
use Rattle.rounds.proofs.AnswerLaws.{answered_err}
use Rattle.rounds.proofs.plan_in.Goals as goal

pub put_plan-requires : goal.put_plan-requires
put_plan-requires c = let (_, h, i) = loaded_job document01 c.args.capacity _ c.load_job.new.mem c.load_job.new.links _ c.in_ok-load_job.ensures in (h, i)

pub returns : goal.returns
returns c = rw (loaded_job document01 c.args.capacity _ c.load_job.new.mem c.load_job.new.links _ c.in_ok-load_job.ensures).0 c.put_plan.ensures

pub returns-in_err-load_job : goal.returns-in_err-load_job
returns-in_err-load_job c =
    answered_err _ _ _ _ c.from_residual.ensures.1
    (rw (refused_job document01 c.args.capacity _ c.load_job.new.mem c.load_job.new.links _ c.in_err-load_job.ensures) refl)
