use Rattle.lists.proofs.Prelude.{◌∙◌, arith, sym}
use Rattle.std.proofs.lemmas.Grind.{common_steps}
use Rattle.text.proofs.Reading.{digits_next, value_more}
use Rattle.text.proofs.more_digits.Goals as goal

pub loop-i-preserved : goal.loop-i-preserved
loop-i-preserved c = (
  omega arith,
  value_more _ _ _ _ (omega arith) (omega arith) c.loop-i.invariant.1 (grind (arith, common_steps)),
  rw c.from.ensures (digits_next _ _ _ _ c.loop-i-test.true (sym c.if-not-is_ascii_digit.ensures.value) c.if-left-eq0.false ∙ c.loop-i.invariant.2),
)
