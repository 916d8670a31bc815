use Rattle.definitions.proofs.Claims.{bears}
use Rattle.plans.specs.Loading.{with_plan}
use Rattle.jobs.proofs.AnswerLaws.{answered_err}
use Rattle.mirguneth.proofs.Page.{replay_both_lem}
use Rattle.mirguneth.proofs.replay.Goals as goal

pub returns-in_err-read_head : goal.returns-in_err-read_head
unfolding with_plan
returns-in_err-read_head c =
    let args = c.args in
    record {
      answered = answered_err _ _ _ _ c.from_residual.ensures.1
          (rw (replay_both_lem args.job.now args.plan.now args.stops.now, c.in_err-read_head.ensures));
      bears = bears _ _ _;
    }

pub returns : goal.returns
returns c =
    let args = c.args in
    record {
      answered = rw (replay_both_lem args.job.now args.plan.now args.stops.now, c.in_ok-read_head.ensures.1) c.answer.ensures;
      bears = bears _ _ _;
    }
