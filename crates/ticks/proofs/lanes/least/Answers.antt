use Rattle.lists.proofs.Prelude.{◌≡◌, ◌∙◌, ℕ, ◌≤◌, min, length, take, arith}
use Rattle.std.proofs.Common.{rules}
use Rattle.std.proofs.lemmas.Iterator.{YieldsList-from_slice}
use Rattle.std.proofs.lemmas.Iterator.Consumers.{fold_from_yields_List}
use Rattle.std.specs.List.{fold}
use lib.Ieee.{Float}
use Rattle.ticks.specs.Lanes as Lanes
use Rattle.ticks.proofs.LaneLaws.{least_folded}
use Rattle.ticks.proofs.lanes.least.Goals as goal

pub returns : goal.returns
returns c =
    let xs = c.args.times.now in
    let n : ℕ = min c.args.m 16 in
    let b : n ≤ length xs = omega arith in
    let f : Float → Float → Float = λ x z. Lanes.lesser z x in
    let e : c.fold.result ≡ fold f c.no_time.result (take n xs) =
    fold_from_yields_List _ f _ _ c.fold.ensures.ran
    (YieldsList-from_slice (take n xs) (rw (c.iter.ensures.rest, c.min.ensures)))
    (λ a x b q k. search rules) in
    rw c.no_time.ensures at e ∙ least_folded n xs b
