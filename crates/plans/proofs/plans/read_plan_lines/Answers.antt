use Rattle.lists.proofs.Prelude.{arith}
use Rattle.jobs.proofs.Held.{links_kept}
use Rattle.text.proofs.Refusals.{handed}
use Rattle.plans.proofs.PlanReading.{upto_none, tasks_kept, upto_end, upto_kept, upto_no, upto_next}
use Rattle.plans.proofs.plans.read_plan_lines.Goals as goal

pub loop-k-init : goal.loop-k-init
loop-k-init c = upto_none c.args.reader.now c.args.mem.now c.requires.0

pub read_plan_line-requires : goal.read_plan_line-requires
read_plan_line-requires c =
    let l = c.loop-k.invariant in
    let pre = c.requires in
    (l.standing, links_kept pre.0.job l.kept (omega arith) pre.1, omega (arith, c.loop-k-test.true, tasks_kept l))

pub returns-in_err-read_plan_line : goal.returns-in_err-read_plan_line
returns-in_err-read_plan_line c =
    let u = c.loop-k.invariant in
    let test = c.loop-k-test.true in
    let read = c.read_plan_line.ensures in
    rw (handed _ _ c.from_residual.ensures.1)
    (upto_kept u test read, upto_no u test read _ c.in_err-read_plan_line.was, λ e. absurd cc)

pub loop-k-preserved : goal.loop-k-preserved
loop-k-preserved c = upto_next c.loop-k.invariant c.loop-k-test.true c.read_plan_line.ensures _ c.in_ok-read_plan_line.was

pub returns : goal.returns
returns c = let u = c.loop-k.invariant in let (read, standing) = upto_end u c.loop-k-test.false in (u.kept, read, λ e. standing)
