use Rattle.lists.proofs.Prelude.{ℕ, ◌<◌, ◌≡◌, nth}
use Rattle.orders.specs.Links.{order_at, Runs}
use Rattle.orders.proofs.sorting.number.Given as goal

abbrev pub invariant-loop-t : goal.invariant-loop-t
invariant-loop-t l = Runs l.v l.edges l.links × ((s : ℕ) → s < l.t → nth l.links (order_at l.v s) ≡ s)
