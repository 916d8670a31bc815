-- The ticks of the replicas passed are the equations'.
use Rattle.lists.proofs.Prelude.{document01}
use Rattle.rounds.proofs.AgreeLaws.{Compared}
use Rattle.rounds.proofs.checker.line_agrees.Given as goal

abbrev pub invariant-loop-c : goal.invariant-loop-c
invariant-loop-c l = Compared document01 l.house.capacity l.k l.a l.mem l.finishes.early l.finishes.late l.c
