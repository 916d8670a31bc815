-- The plan stands in the memory, if neither it nor the job was refused.
use Rattle.lists.proofs.Prelude.{refl, document01}
use Rattle.plans.proofs.JobAndPlan.{both_no, both_next, both_held}
use Rattle.rounds.proofs.AnswerLaws.{answered_err}
use Rattle.rounds.proofs.replay_in.Goals as goal

pub put_replay-requires : goal.put_replay-requires
put_replay-requires c = both_held document01 c.args.capacity _ c.args.plan.now c.load_both.new.mem c.load_both.new.links _ c.in_ok-load_both.ensures

pub returns : goal.returns
returns c = rw (both_next document01 c.args.capacity c.load_both.new.mem c.load_both.new.links _ _ c.in_ok-load_both.ensures).0 c.put_replay.ensures

pub returns-in_err-load_both : goal.returns-in_err-load_both
returns-in_err-load_both c =
    answered_err _ _ _ _ c.from_residual.ensures.1
    (rw (both_no document01 c.args.capacity c.load_both.new.mem c.load_both.new.links _ _ c.in_err-load_both.ensures) refl)
