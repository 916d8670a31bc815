-- The clocks after the replicas passed.
use Rattle.lists.proofs.Prelude.{◌≡◌}
use Rattle.ticks.specs.Lanes.{advanced}
use Rattle.ticks.proofs.clocks.Clocks.advance.Given as goal

abbrev pub invariant-loop-processor : goal.invariant-loop-processor
invariant-loop-processor l =
    (l.self.early ≡ advanced 1 l.processor-index l.cells l.fn.self.early) × (l.self.late ≡ advanced 2 l.processor-index l.cells l.fn.self.late)
