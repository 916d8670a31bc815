-- What the checker refuses is printed; the check finds what it accepts.
use Rattle.lists.proofs.Prelude.{[], ◌∷◌, arith, document01, verdict}
use Rattle.check_plan.proofs.Printed.{shown}
use Rattle.check_plan.proofs.answer.Goals as goal

pub returns-in-Err-Doubled : goal.returns-in-Err-Doubled
returns-in-Err-Doubled c =
    let judged = rw c.in-Err-Doubled.field-0-is at c.in-Err-Doubled.ensures.judged in
    let (by_index, counted) = shown (verdict document01 c.args.job.now c.args.plan.now) (12 ∷ c.from.result ∷ []) _ _ _ (rw c.from.ensures judged)
    (omega arith) c.requires c.write_doubled.ensures.value c.write_doubled.ensures.holds in
    record { by_index = by_index; counted = counted }

pub returns-in-Err-Refused : goal.returns-in-Err-Refused
returns-in-Err-Refused c =
    let judged = rw c.in-Err-Refused.field-0-is at c.in-Err-Refused.ensures.judged in
    let from = c.from-in-Err-Refused in
    let (by_index, counted) = shown (verdict document01 c.args.job.now c.args.plan.now) (from.result ∷ []) _ _ _ (rw from.ensures judged)
    (omega arith) c.requires c.write_refusal.ensures.value c.write_refusal.ensures.holds in
    record { by_index = by_index; counted = counted }
