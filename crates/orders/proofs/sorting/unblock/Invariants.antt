use Rattle.lists.proofs.Prelude.{◌≤◌, ◌-◌, ◌+◌, length}
use Rattle.orders.specs.Links.{run}
use Rattle.orders.specs.Sorting.{Sorting}
use Rattle.orders.proofs.sorting.unblock.Given as goal

abbrev pub invariant-loop-k : goal.invariant-loop-k
invariant-loop-k l =
    (l.k-start ≤ l.k) × (l.k ≤ length l.edges) × Sorting l.v l.edges l.links l.v (l.i + 1) l.count (run l.k-start (l.k - l.k-start) l.edges)
