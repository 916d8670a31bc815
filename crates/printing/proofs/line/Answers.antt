use Rattle.lists.proofs.Prelude.{sym, ◌∙◌, arith, leb-true, document01}
use Rattle.definitions.proofs.Decimal.{length_line}
use Rattle.printing.proofs.WriteLaws.{numbers_room, line_written}
use Rattle.printing.proofs.line.Goals as goal

pub write_numbers-requires : goal.write_numbers-requires
write_numbers-requires c =
    let a = c.args in
    let h = sym c.line_fits.ensures ∙ c.if-line_fits.true in
    numbers_room document01 a.out.now a.opening.now a.vals.now (leb-true _ _ h) _ _ c.write_fixed-at.ensures.holds
    c.write_fixed-at.ensures.value

pub returns-then-line_fits : goal.returns-then-line_fits
returns-then-line_fits c =
    let a = c.args in
    let n = c.write_numbers.ensures in
    let h = sym c.line_fits.ensures ∙ c.if-line_fits.true in
    let both = line_written document01 a.out.now a.opening.now a.vals.now (leb-true _ _ h) _ _ c.write_fixed-at.ensures.holds
    c.write_fixed-at.ensures.value (omega arith) _ _ n.0 n.1 in
    record { value = both.0; holds = both.1 }

pub returns-clause-value : goal.returns-clause-value
returns-clause-value c = rw (length_line document01 c.args.opening.now c.args.vals.now, c.numbers_length.ensures)
