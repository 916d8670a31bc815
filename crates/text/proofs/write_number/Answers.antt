-- The test says whether the digits fit: as many as the width.
use Rattle.std.proofs.lemmas.Grind.{common_steps}
use Rattle.lists.proofs.Prelude.{◌∙◌, arith, document01, decimal}
use Rattle.definitions.proofs.Decimal.{length_decimal}
use Rattle.text.proofs.Writing.{fits, unfit}
use Rattle.text.proofs.write_number.Goals as goal

pub returns-then-out-at : goal.returns-then-out-at
returns-then-out-at c =
    let both = unfit c.args.out.now c.args.at (decimal document01 c.args.n) (grind (arith, common_steps, length_decimal document01 c.args.n)) in
    record { value = both.0; holds = both.1 }

pub returns : goal.returns
unfolding decimal
returns c =
    let a = c.args in
    let w = length_decimal document01 a.n in
    let both = fits a.out.now a.at (decimal document01 a.n) (omega arith) _ _ (omega arith)
    (c.write_digits.ensures ∙ rw c.width_of-d.ensures) in
    record { value = both.0; holds = both.1 }
