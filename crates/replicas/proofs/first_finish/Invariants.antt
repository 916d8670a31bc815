-- The first finish of the replicas passed.
use Rattle.lists.proofs.Prelude.{◌≡◌}
use Rattle.replicas.specs.Cells.{least_early, least_on}
use Rattle.replicas.proofs.first_finish.Given as goal

abbrev pub invariant-loop-processor : goal.invariant-loop-processor
invariant-loop-processor l = (l.first.time ≡ least_early l.processor-index l.cells) × (l.first.processor ≡ least_on l.processor-index l.cells)
