-- The rows are read, if they are wide enough and fit.
use Rattle.lists.proofs.Prelude.{sym, ◌∙◌, document01}
use Rattle.text.proofs.Refusals.{handed}
use Rattle.lines.proofs.LeftLaws.{line_leaves, lines_part}
use Rattle.rows.proofs.RowLaws.{rows_narrow, rows_lent, rows_unfit}
use Rattle.rows.proofs.read_rows.Goals as goal
use Rattle.rows.proofs.read_rows.Goals.{else-is_wide-via-then-is_wide+else-n-mem, else-is_wide-via-else-is_wide}

pub returns-then-n-mem-clause-read : goal.returns-then-n-mem-clause-read
returns-then-n-mem-clause-read c =
    let read = rw (c.new-rest.ensures, c.rest.ensures) at c.in_ok-fill_rows.ensures in
    read ∙ sym (rows_lent _ _ _ _ _ _ _ (sym c.if-is_wide.ensures) c.if-n-mem.true)

pub returns-then-n-mem-clause-part : goal.returns-then-n-mem-clause-part
returns-then-n-mem-clause-part c =
    let read = rw (c.new-rest.ensures, c.rest.ensures) at c.in_ok-fill_rows.ensures in
    lines_part _ _ (line_leaves document01 _ _) _ _ _ _ _ read

pub returns-in_err-fill_rows-clause-read : goal.returns-in_err-fill_rows-clause-read
returns-in_err-fill_rows-clause-read c =
    let read = rw (c.new-rest.ensures, c.rest.ensures) at c.in_err-fill_rows.ensures in
    rw (handed _ _ c.from_residual.ensures.1) (read ∙ sym (rows_lent _ _ _ _ _ _ _ (sym c.if-is_wide.ensures) c.if-n-mem.true))

pub returns-clause-read : goal.returns-clause-read
returns-clause-read c = elim c.else-is_wide.branch [
  | else-is_wide-via-then-is_wide+else-n-mem w ↦ rows_unfit _ _ _ _ _ _ _ (sym w.if-is_wide.ensures) w.if-n-mem.false
  | else-is_wide-via-else-is_wide w ↦ rows_narrow _ _ _ _ _ _ _ (sym w.if-is_wide.ensures)
]
