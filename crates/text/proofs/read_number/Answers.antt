-- The first digit decides how many may follow.
use Rattle.lists.proofs.Prelude.{◌∙◌, arith}
use Rattle.text.proofs.Reading.{digit_yes, number_more}
use Rattle.text.proofs.read_number.Goals as goal

pub returns-in-49-to-57-clause-result_value : goal.returns-in-49-to-57-clause-result_value
returns-in-49-to-57-clause-result_value c =
    let found = c.in_ok-first.ensures.lookup.3 in
    let first = c.in_ok-first.field-0.now in
    c.more_digits-in-49-to-57.ensures.result_value
    ∙ rw c.from.ensures (number_more _ _ _ first found.0 (found.1 0) (digit_yes first (omega arith) (omega arith)) (λ e. omega arith))
