-- The ends of what is written are M* and M of the equations, if the ticks are.
use Rattle.lists.proofs.Prelude.{◌∙◌, ne_eqb}
use Rattle.rounds.proofs.Bounds.{lower_differs, upper_decides}
use Rattle.rounds.proofs.checker.bounds_agree.Goals as goal

pub returns-then-ends-house : goal.returns-then-ends-house
returns-then-ends-house c =
    let pre = c.requires in
    let ends = c.makespans_of-ends in
    upper_decides pre.0 pre.2 pre.3 ends.result.lower ends.ensures.0 c.if-ends-house.true ends.result.upper ends.ensures.1

pub returns-else-ends-house : goal.returns-else-ends-house
returns-else-ends-house c =
    let pre = c.requires in
    let ends = c.makespans_of-ends in
    ne_eqb _ _ c.if-ends-house.false ∙ lower_differs pre.0 pre.2 pre.3 ends.result.lower ends.ensures.0 c.if-ends-house.false
