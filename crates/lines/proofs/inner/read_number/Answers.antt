use Rattle.lists.proofs.Prelude.{◌∙◌, ◌+◌, ◌≤◌, arith, length, document01}
use Rattle.text.proofs.Reading.{inner_more}
use Rattle.lines.proofs.inner.read_number.Goals as goal

pub returns-then-first-gt0 : goal.returns-then-first-gt0
returns-then-first-gt0 c =
    let inside : c.args.at + (document01.digits + 2) ≤ length c.args.s.now = omega arith in
    c.more_digits.ensures ∙ inner_more _ _ _ inside _ (c.digit-first.ensures.0 c.if-first-gt9.false) c.if-first-gt0.true
