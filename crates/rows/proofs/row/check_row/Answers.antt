-- Each number by its law.
use Rattle.lists.proofs.Prelude.{document01}
use Rattle.rows.proofs.RowLaws.{out_of_turn, out_of_range, run_good, delay_self, delay_good}
use Rattle.rows.proofs.row.check_row.Goals as goal

pub returns-then-row-i : goal.returns-then-row-i
returns-then-row-i c = λ seen n. out_of_turn document01 seen c.args.row.now _ n c.if-row-i.true _

pub returns-then-off_range : goal.returns-then-off_range
returns-then-off_range c = λ seen n. out_of_range document01 seen c.args.row.now _ n c.if-row-i.false _ c.if-off_range.ensures

pub returns-in-Delays : goal.returns-in-Delays
returns-in-Delays c = λ seen n.
    delay_self document01 seen c.args.row.now _ n c.if-row-i.false _ c.if-off_range.ensures c.in-Delays.is c.if-row-i-ne0.true

pub returns-in_default : goal.returns-in_default
returns-in_default c = λ seen n.
    delay_good document01 seen c.args.row.now _ n c.if-row-i.false _ c.if-off_range.ensures c.in-Delays.is c.if-row-i-ne0.false

pub returns-in_default-2 : goal.returns-in_default-2
returns-in_default-2 c = λ seen n. run_good document01 seen c.args.row.now _ n c.if-row-i.false _ c.if-off_range.ensures c.in_default.is
