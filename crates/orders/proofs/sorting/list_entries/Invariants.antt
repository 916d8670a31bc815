use Rattle.lists.proofs.Prelude.{[]}
use Rattle.orders.specs.Sorting.{Sorting}
use Rattle.orders.proofs.sorting.list_entries.Given as goal

abbrev pub invariant-loop-t : goal.invariant-loop-t
invariant-loop-t l = Sorting l.v l.edges l.links l.t 0 l.n []
