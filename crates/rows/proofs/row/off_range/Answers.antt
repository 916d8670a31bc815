-- The chain tries each number after the first; each kind has its own range.
use Rattle.std.proofs.Common.{rules, tests}
use Rattle.std.proofs.lemmas.Iterator.{YieldsList-from_slice}
use Rattle.std.proofs.lemmas.Iterator.Search.{any_from_yields_List}
use Rattle.lists.proofs.Prelude.{◌≡◌, refl, ◌∙◌, arith, length-drop, take_all, drop, any, outside}
use Rattle.lists.proofs.Chains.{any_listed}
use Rattle.rows.proofs.row.off_range.Goals as goal
use Rattle.rows.proofs.row.off_range.Goals.{in-Runs, in-Delays}

pub returns : goal.returns
returns c =
    let (low, high) = c.match-kind.low in
    let others = drop 1 c.args.row.now in
    let yields = YieldsList-from_slice others (c.iter.ensures.rest ∙ take_all _ others (omega (arith, length-drop 1 c.args.row.now))) in
    let e : c.any.result ≡ any (outside low high) others =
    any_from_yields_List (outside low high) _ _ c.any.result c.any.ensures.ran yields (λ x b q k. search (rules, tests)) ∙ any_listed _ _ (λ x. refl) others in
    elim c.match-kind.branch [
      | in-Runs w ↦ e ∙ rw (w.low-is, w.in-Runs.is)
      | in-Delays w ↦ e ∙ rw (w.low-is, w.in-Delays.is)
    ]
