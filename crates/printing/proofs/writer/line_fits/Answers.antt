use Rattle.lists.proofs.Prelude.{sym, ◌∙◌, arith, le-leb, document01}
use Rattle.printing.proofs.WriteLaws.{line_over, line_most, line_counted}
use Rattle.printing.proofs.writer.line_fits.Goals as goal

pub returns-in_default : goal.returns-in_default
returns-in_default c = sym (line_over document01 _ _ _ (omega (arith, c.in_default.ensures)))

pub returns-then-vals-left : goal.returns-then-vals-left
returns-then-vals-left c =
    let m = line_most document01 (omega arith) c.args.opening.now c.args.vals.now in
    le-leb _ _ c.if-vals-left.true ∙ sym (le-leb _ _ (omega (arith, c.in-Some.ensures, m)))

pub returns-else-vals-left : goal.returns-else-vals-left
returns-else-vals-left c = let (h, e) = c.in-Some.ensures in rw (c.numbers_length.ensures, e) (line_counted document01 _ _ _ h)
