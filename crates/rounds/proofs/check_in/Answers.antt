-- What the memories hold after both texts were read is what the judgment asks for.
use Rattle.lists.proofs.Prelude.{refl, document01}
use Rattle.plans.proofs.JobAndPlan.{both_no, both_next, both_held}
use Rattle.rounds.proofs.AnswerLaws.{judged_err}
use Rattle.rounds.proofs.check_in.Goals as goal

pub judge-requires : goal.judge-requires
judge-requires c = both_held document01 c.args.capacity _ c.args.plan.now c.load_both.new.mem c.load_both.new.links _ c.in_ok-load_both.ensures

pub returns : goal.returns
returns c = rw (both_next document01 c.args.capacity c.load_both.new.mem c.load_both.new.links _ _ c.in_ok-load_both.ensures).0 c.judge.ensures

pub returns-in_err-load_both : goal.returns-in_err-load_both
returns-in_err-load_both c =
    judged_err _ _ _ c.from_residual.ensures.1
    (rw (both_no document01 c.args.capacity c.load_both.new.mem c.load_both.new.links _ _ c.in_err-load_both.ensures) refl)
