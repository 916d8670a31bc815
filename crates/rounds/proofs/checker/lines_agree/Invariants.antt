-- The ticks of the lines passed are the equations', the clocks are those after them and the table has their ends.
use Rattle.lists.proofs.Prelude.{ℕ, ◌<◌, document01}
use Rattle.rounds.specs.Schedule.{ShortTo}
use Rattle.rounds.specs.Arrivals.{Ended}
use Rattle.rounds.specs.Checking.{ClocksAfter, LineAgrees}
use Rattle.rounds.proofs.checker.lines_agree.Given as goal

abbrev pub invariant-loop-k : goal.invariant-loop-k
invariant-loop-k l =
    ((i : ℕ) → i < l.k → LineAgrees l.house.capacity i l.mem) × ShortTo document01 l.house.capacity l.k l.mem × ClocksAfter l.house.capacity l.k l.mem l.clocks
    × Ended document01 l.house.capacity l.k l.mem l.ends
