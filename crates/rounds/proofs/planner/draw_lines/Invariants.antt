-- k lines are drawn up, what is left to place gives the rest of the plan, and the free tasks are listed.
use Rattle.lists.proofs.Prelude.{[], document01}
use Rattle.heads.specs.Layout.{memory_size, level_at}
use Rattle.jobs.specs.Held.{job_in}
use Rattle.lists.specs.Kept.{KeptOutside}
use Rattle.rounds.specs.Arrivals.{Ended}
use Rattle.rounds.specs.Planning.{FreeList, Drawn, Ranked}
use Rattle.rounds.specs.Clocks.{earlies_in, lates_in, ClocksHeld}
use Rattle.rounds.proofs.planner.draw_lines.Given as goal

abbrev pub invariant-loop-k : goal.invariant-loop-k
invariant-loop-k l =
    KeptOutside (level_at l.capacity) (memory_size l.capacity) l.initial.mem l.mem × Drawn document01 l.capacity l.k l.mem × Ranked l.capacity [] l.mem
    × ClocksHeld l.clocks (job_in l.mem) (earlies_in l.capacity l.k l.mem) (lates_in l.capacity l.k l.mem)
    × FreeList l.capacity l.free l.mem × Ended document01 l.capacity l.k l.mem l.ends
