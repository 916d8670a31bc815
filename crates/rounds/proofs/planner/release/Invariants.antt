-- The edges in the cells before the next are still counted, and the free tasks are listed.
use Rattle.lists.proofs.Prelude.{◌+◌}
use Rattle.rounds.specs.Planning.{FreeList}
use Rattle.rounds.proofs.ReleaseLaws.{Releasing}
use Rattle.rounds.proofs.planner.release.Given as goal

abbrev pub invariant-loop-k : goal.invariant-loop-k
invariant-loop-k l =
    Releasing l.capacity l.t (l.g + l.k-start) (l.g + l.initial.k) (l.g + l.k) l.initial.mem l.mem
    × FreeList l.capacity l.free l.mem
