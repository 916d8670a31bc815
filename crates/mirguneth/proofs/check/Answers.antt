use Rattle.definitions.proofs.Claims.{breaks}
use Rattle.plans.specs.Loading.{with_plan}
use Rattle.rounds.proofs.AnswerLaws.{judged_err}
use Rattle.mirguneth.proofs.Page.{verdict_both_lem}
use Rattle.mirguneth.proofs.check.Goals as goal

pub returns-in_err-read_head : goal.returns-in_err-read_head
unfolding with_plan
returns-in_err-read_head c =
    let args = c.args in
    record {
      judged = judged_err _ _ _ c.from_residual.ensures.1
          (rw (verdict_both_lem args.job.now args.plan.now, c.in_err-read_head.ensures));
      breaks = breaks _ _;
    }

pub returns : goal.returns
returns c =
    let args = c.args in
    record {
      judged = rw (verdict_both_lem args.job.now args.plan.now, c.in_ok-read_head.ensures.1) c.answer.ensures;
      breaks = breaks _ _;
    }
