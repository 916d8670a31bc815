-- The first c processors of the list have their replicas in the line.
use Rattle.lists.proofs.Prelude.{take}
use Rattle.rounds.specs.Planning.{Begun, processors_for}
use Rattle.rounds.proofs.planner.fill_line.Given as goal

abbrev pub invariant-loop-c : goal.invariant-loop-c
invariant-loop-c l = Begun l.capacity l.k l.t (take l.c (processors_for l.capacity l.k l.t l.initial.mem)) l.initial.mem l.mem
