-- Each line gives one row more.
use Rattle.text.proofs.Refusals.{handed}
use Rattle.lists.proofs.Prelude.{◌≡◌, ◌≤◌, ◌*◌, arith, length}
use Rattle.lines.proofs.LineLaws.{lines_none, lines_refused, lines_more, lines_read}
use Rattle.rows.specs.Rows.{rows}
use Rattle.rows.proofs.RowLaws.{length_rows, row_ends, lent_more}
use Rattle.rows.proofs.row.fill_rows.Goals as goal

pub loop-i-init : goal.loop-i-init
unfolding rows
loop-i-init c = lines_none

pub returns-in_err-read_row : goal.returns-in_err-read_row
returns-in_err-read_row c =
    let e = c.read_row.ensures _ (length_rows c.args.k c.loop-i.i c.loop-i.mem) in
    rw (handed _ _ c.from_residual.ensures.1) (lines_refused c.loop-i.invariant c.loop-i-test.true _ _ e c.in_err-read_row.was)

pub loop-i-preserved : goal.loop-i-preserved
loop-i-preserved c =
    let l = c.loop-i in
    let k = c.args.k in
    let inside : l.i * k ≤ length l.mem = omega (arith, row_ends l.i c.args.n k c.loop-i-test.true, l.auto.mem, c.requires.1) in
    let e = c.read_row.ensures _ (length_rows k l.i l.mem) in
    rw (lent_more k l.i l.mem c.read_row.new.cells inside) (lines_more l.invariant c.loop-i-test.true _ _ e c.in_ok-read_row.was)

pub returns : goal.returns
returns c =
    let l = c.loop-i in
    let e : c.args.n ≡ l.i = omega (arith, l.auto.i-end, c.loop-i-test.false) in
    rw (← e) at (lines_read l.invariant c.loop-i-test.false)
