use Rattle.lists.proofs.Prelude.{[], ◌-◌}
use Rattle.orders.specs.Sorting.{Sorting}
use Rattle.orders.proofs.sorting.arrange.Given as goal

abbrev pub invariant-loop-i : goal.invariant-loop-i
invariant-loop-i l = Sorting l.v l.edges l.links l.v l.i l.n []

abbrev pub decreases-loop-i : goal.decreases-loop-i
decreases-loop-i l = l.v - l.i
