use Rattle.lists.proofs.Prelude.{◌∙◌, arith}
use Rattle.text.proofs.Reading.{inner_next, value_ten}
use Rattle.lines.proofs.inner.more_digits.Goals as goal

pub loop-i-preserved : goal.loop-i-preserved
loop-i-preserved c =
    let l = c.loop-i in
    let h = c.loop-i-test.true in
    let d = c.if-d-gt9.false in
    (omega (arith, h), value_ten _ _ _ l.invariant.1 d, inner_next _ _ _ _ _ c.requires.0 l.invariant.0 _ h (c.digit-d.ensures.0 d) ∙ l.invariant.2)
