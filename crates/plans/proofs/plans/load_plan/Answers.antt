-- The head is read, then the lines.
use Rattle.lists.proofs.Prelude.{document01}
use Rattle.lists.proofs.Kept.{kept_all}
use Rattle.text.proofs.Refusals.{handed}
use Rattle.plans.proofs.PlanText.{plan_long, plan_head_bad, plan_head_no, plan_next}
use Rattle.plans.proofs.plans.load_plan.Goals as goal

pub returns-then-s-gt-TEXT_LENGTH : goal.returns-then-s-gt-TEXT_LENGTH
returns-then-s-gt-TEXT_LENGTH c =
    let args = c.args in
    (kept_all, plan_long _ args.mem.now args.s.now _ args.mem.now c.if-s-gt-TEXT_LENGTH.true)

pub returns-in_err-line : goal.returns-in_err-line
returns-in_err-line c =
    let d = c.args.mem.now in
    let head = rw c.new-reader.ensures at c.line.ensures.read in
    rw (handed _ _ c.from_residual.ensures.1) (kept_all, plan_head_bad document01 d _ c.if-s-gt-TEXT_LENGTH.false c.line.new.vals _ head _ d _ c.in_err-line.was)

pub returns-in_err-check_head : goal.returns-in_err-check_head
returns-in_err-check_head c =
    let d = c.args.mem.now in
    let head = rw c.new-reader.ensures at c.line.ensures.read in
    rw (handed _ _ c.from_residual-in_err-check_head.ensures.1)
    (kept_all, plan_head_no document01 d _ c.if-s-gt-TEXT_LENGTH.false c.line.new.vals _ head _ c.in_ok-line.was _ d _ c.in_err-check_head.ensures)

pub returns : goal.returns
returns c =
    let d = c.args.mem.now in
    let head = rw c.new-reader.ensures at c.line.ensures.read in
    let (kept, loaded) = c.load_lines.ensures in
    (kept, rw (plan_next document01 d _ c.if-s-gt-TEXT_LENGTH.false c.line.new.vals _ head _ c.in_ok-line.was c.in_ok-check_head.ensures) loaded)
