-- The tasks of the order from place i on have their bottom level.
use Rattle.lists.proofs.Prelude.{drop}
use Rattle.orders.specs.Links.{order_at}
use Rattle.rounds.proofs.LevelLaws.{Filling}
use Rattle.rounds.proofs.levels.fill_levels.Given as goal

abbrev pub invariant-loop-i : goal.invariant-loop-i
invariant-loop-i l = Filling l.capacity (drop (order_at l.v 0) l.links) l.initial.mem l.mem l.i
