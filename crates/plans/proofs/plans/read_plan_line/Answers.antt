-- The line is read into its row, then its rule is tried; its task gets its place in the table.
use Rattle.lists.proofs.Prelude.{ap}
use Rattle.text.specs.Meaning.{due_of}
use Rattle.text.proofs.Refusals.{handed}
use Rattle.plans.proofs.PlanReading.{filled_standing, filled_asked, read_no, read_yes}
use Rattle.plans.proofs.plans.read_plan_line.Goals as goal

pub check_line-requires : goal.check_line-requires
check_line-requires c =
    let pre = c.requires in
    rw c.row_at-a.ensures (filled_asked pre.0 pre.2 c.fill_row.ensures pre.1)

pub returns-in_err-check_line : goal.returns-in_err-check_line
returns-in_err-check_line c =
    let row = c.row_at-a.ensures in
    let filled = c.fill_row.ensures in
    let pre = c.requires in
    let rule = c.check_line.ensures.0 _ (filled_standing pre.0 pre.2 filled) in
    rw (handed _ _ c.from_residual-in_err-check_line.ensures.1)
    (read_no pre.0 pre.2 filled _ c.in_ok-fill_row.was _ (rw row at rule) _ (ap due_of c.in_err-check_line.was))

pub returns : goal.returns
returns c =
    let row = c.row_at-a.ensures in
    let filled = c.fill_row.ensures in
    let check = c.check_line.ensures in
    let pre = c.requires in
    let z = ap due_of c.in_ok-check_line.was in
    rw (c.put_line.ensures, row)
    (read_yes pre.0 pre.2 filled _ c.in_ok-fill_row.was _ (rw row at (check.0 _ (filled_standing pre.0 pre.2 filled))) (rw row at (check.1 z)) z)
