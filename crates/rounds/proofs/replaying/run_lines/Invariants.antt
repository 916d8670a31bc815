-- Line by line the outcomes are those of the replay.
use Rattle.lists.proofs.Prelude.{document01}
use Rattle.rounds.specs.Arrivals.{Ended}
use Rattle.rounds.proofs.RoundLaws.{RoundRuns}
use Rattle.rounds.proofs.replaying.run_lines.Given as goal

abbrev pub invariant-loop-k : goal.invariant-loop-k
invariant-loop-k l = RoundRuns document01 l.capacity l.k l.stops l.ready.at l.initial.mem l.mem × Ended document01 l.capacity l.k l.mem l.ends
