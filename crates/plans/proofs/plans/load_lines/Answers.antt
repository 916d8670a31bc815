-- The table of lines is cleared, the lines are read, and then M* and M are stored.
use Rattle.lists.proofs.Prelude.{sym, ◌∙◌, arith}
use Rattle.jobs.proofs.Held.{links_kept}
use Rattle.text.proofs.Refusals.{handed}
use Rattle.plans.proofs.PlanText.{cleared_standing, all_read, lines_bad, lines_left_over, lines_good}
use Rattle.plans.proofs.plans.load_lines.Goals as goal

pub read_plan_lines-requires : goal.read_plan_lines-requires
read_plan_lines-requires c =
    let (job, links) = c.requires in
    let (kept, none) = c.clear_lines.ensures in
    (cleared_standing job kept none, links_kept job kept (omega arith) links)

pub returns-in_err-read_plan_lines : goal.returns-in_err-read_plan_lines
returns-in_err-read_plan_lines c =
    let (kept, answer, _) = c.read_plan_lines.ensures in
    let u = all_read c.requires.0 c.clear_lines.ensures.0 kept answer in
    rw (handed _ _ c.from_residual.ensures.1) (u.kept, lines_bad u c.args.lower c.args.upper _ c.in_err-read_plan_lines.was)

pub returns-then-not-is_at_end : goal.returns-then-not-is_at_end
returns-then-not-is_at_end c =
    let (kept, answer, _) = c.read_plan_lines.ensures in
    let u = all_read c.requires.0 c.clear_lines.ensures.0 kept answer in
    (u.kept, lines_left_over u c.args.lower c.args.upper _ c.in_ok-read_plan_lines.was (sym c.is_at_end.ensures ∙ c.if-not-is_at_end.true))

pub returns : goal.returns
returns c =
    let (kept, answer, standing) = c.read_plan_lines.ensures in
    let u = all_read c.requires.0 c.clear_lines.ensures.0 kept answer in
    lines_good u c.args.lower c.args.upper _ c.in_ok-read_plan_lines.was (sym c.is_at_end.ensures ∙ c.if-not-is_at_end.false) (standing c.in_ok-read_plan_lines.was)
