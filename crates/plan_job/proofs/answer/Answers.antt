-- The plan's bytes are printed, or the line of the refusal.
use Rattle.lists.proofs.Prelude.{arith, plan_printed}
use Rattle.console.proofs.Shown.{shown_done, shown_refusal}
use Rattle.plan_job.proofs.Printed.{said, plan_printed_lem, all_fits, printed_most}
use Rattle.plan_job.proofs.answer.Goals as goal

pub returns-in-Ok : goal.returns-in-Ok
returns-in-Ok c =
    let job = c.args.job.now in
    let (value, holds, counted) = shown_done (said job) (plan_printed job) _ _ (plan_printed_lem job) (omega (arith, printed_most job, c.requires)) _
    (rw (all_fits job _ c.requires) at c.in-Ok.ensures) in
    record { value = value; holds = holds; counted = counted }

pub returns-in-Err : goal.returns-in-Err
returns-in-Err c =
    let job = c.args.job.now in
    let (value, holds, counted) = shown_refusal (said job) (plan_printed job) _ _ (plan_printed_lem job) (omega (arith, printed_most job, c.requires)) _
    (rw (all_fits job _ c.requires) at c.in-Err.ensures) _ _ (rw c.from.ensures at c.write_refusal.ensures.value)
    (rw c.from.ensures at c.write_refusal.ensures.holds) in
    record { value = value; holds = holds; counted = counted }
