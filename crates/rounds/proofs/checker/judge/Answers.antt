use Rattle.lists.proofs.Prelude.{arith, document01}
use Rattle.jobs.specs.Held.{job_in}
use Rattle.plans.specs.Loading.{plan_in}
use Rattle.rounds.proofs.VerdictLaws.{answer_doubled}
use Rattle.rounds.proofs.checker.judge.Goals as goal

pub compare-requires : goal.compare-requires
compare-requires c = (c.requires.0, c.requires.1, rw c.in-None.is at c.doubled.ensures)

pub overflow_cast-result : goal.overflow_cast-result
overflow_cast-result c = let i = rw c.in-Some.is at c.doubled.ensures in omega (arith, i.1)

pub returns-in-Some : goal.returns-in-Some
returns-in-Some c =
    let house = c.args.house in
    let i = rw c.in-Some.is at c.doubled.ensures in
    answer_doubled document01 (job_in house.mem.now) (plan_in house.capacity house.mem.now) _ i.0
