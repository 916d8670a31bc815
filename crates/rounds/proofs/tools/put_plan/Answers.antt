-- The plan of the definition stands in the memory, and its text is written if it fits.
use Rattle.std.proofs.Common.{rules}
use Rattle.definitions.proofs.Claims.{roomy01}
use Rattle.rounds.proofs.PlanAnswer.{bounds_asked, ended_held, drafted, drafted_most}
use Rattle.rounds.proofs.tools.put_plan.Goals as goal

pub makespans_of-ends-requires : goal.makespans_of-ends-requires
makespans_of-ends-requires c = let (h, l) = c.requires in bounds_asked h c.draw_plan.ensures l

pub put_text-requires : goal.put_text-requires
put_text-requires c = let held = ended_held c.requires.0 c.draw_plan.ensures in search (rules, held)

pub returns : goal.returns
returns c =
    let (h, _) = c.requires in
    let (x, y) = c.makespans_of-ends.ensures in
    rw (drafted h c.draw_plan.ensures roomy01 _ _ x y)
    at (c.put_text.ensures _ (λ d e at p. search rules) (drafted_most h c.draw_plan.ensures roomy01 _ _ x y))
