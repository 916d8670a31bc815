use Rattle.std.proofs.Common.{rules, tests}
use Rattle.std.proofs.iter.Serving.{serving}
use Rattle.std.proofs.lemmas.Iterator.{YieldsList-from_slice, YieldsList-from_map}
use Rattle.std.proofs.lemmas.Iterator.Adapters.{fits_from_length, at_most_from_yields_List}
use Rattle.std.proofs.lemmas.Iterator.Consumers.{sum_by_from_yields_List}
use Rattle.lists.proofs.Prelude.{◌∙◌, ℕ, ◌+◌, ◌^◌, arith, width, document01}
use Rattle.printing.proofs.WriteLaws.{width_few, numbers_summed}
use Rattle.printing.proofs.writer.numbers_length.Goals as goal

pub sum-requires-clause-can : goal.sum-requires-clause-can
sum-requires-clause-can c = grind (serving, width_few)

-- Fewer than 2 ^ 60 numbers, of 11 bytes each at most.
pub sum-requires-clause-fits : goal.sum-requires-clause-fits
sum-requires-clause-fits c =
    let numbers = YieldsList-from_slice c.args.vals.now cc in
    fits_from_length _ _ (2 ^ 60) (2 ^ 64) (at_most_from_yields_List numbers (omega arith)) c.map.ensures.closure (omega arith) (λ x r q k. grind (serving, width_few))

pub returns : goal.returns
returns c =
    let vals = c.args.vals.now in
    let taken = λ (x : ℕ). width document01 x + 1 in
    sum_by_from_yields_List taken vals _ c.sum.result c.sum.ensures.ran
    (YieldsList-from_map _ taken (YieldsList-from_slice vals cc) c.map.ensures.closure (λ x r q k. search (rules, tests))) ∙ numbers_summed document01 vals
