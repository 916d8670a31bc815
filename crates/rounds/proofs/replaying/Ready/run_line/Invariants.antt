-- Replica by replica the outcomes are those of the walk, and then the ends of the line are noted.
use Rattle.lists.proofs.Prelude.{document01}
use Rattle.rounds.proofs.RunLaws.{LineRuns}
use Rattle.rounds.proofs.replaying.Ready.run_line.Given as goal

abbrev pub invariant-loop-c : goal.invariant-loop-c
invariant-loop-c l = LineRuns document01 l.capacity l.k l.c l.stops l.initial.self.at l.self.at l.initial.mem l.mem
