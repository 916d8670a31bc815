use Rattle.std.proofs.Common.{rules}
use Rattle.lists.proofs.Prelude.{sym, ◌∙◌}
use Rattle.text.proofs.Writing.{stored_next}
use Rattle.text.proofs.write_digits.Goals as goal

pub loop-k-preserved : goal.loop-k-preserved
loop-k-preserved c = (search rules, sym (stored_next _ _ _ _ c.loop-k-test.true) ∙ c.loop-k.invariant.1)
