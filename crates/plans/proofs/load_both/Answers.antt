-- The job is read and its edges linked, and the plan is read for it.
use Rattle.lists.proofs.Prelude.{length, document01}
use Rattle.heads.specs.Heads.{head_of}
use Rattle.jobs.specs.Loading.{job_from}
use Rattle.text.proofs.Refusals.{handed}
use Rattle.plans.proofs.JobAndPlan.{no_job, both_loaded}
use Rattle.plans.proofs.load_both.Goals as goal

pub returns-in_err-load_job : goal.returns-in_err-load_job
returns-in_err-load_job c =
    let a = c.args in
    rw (handed _ _ c.from_residual.ensures.1)
    (no_job _ a.capacity (job_from document01 a.capacity (length a.mem.now) (length a.links.now) (head_of a.job.head) a.job.rest.now) a.plan.now
    c.load_job.new.mem c.load_job.new.links _ c.in_err-load_job.ensures)

pub returns : goal.returns
returns c =
    let a = c.args in
    let plan = c.load_plan.ensures in
    both_loaded _ a.capacity (job_from document01 a.capacity (length a.mem.now) (length a.links.now) (head_of a.job.head) a.job.rest.now) a.plan.now
    c.load_job.new.mem c.load_job.new.links _ c.in_ok-load_job.ensures _ _ plan.0 plan.1
