-- The tasks passed are cleared, and nothing else changed.
use Rattle.heads.specs.Layout.{line_at, row_at}
use Rattle.jobs.specs.Held.{job_in}
use Rattle.lists.specs.Kept.{KeptOutside}
use Rattle.rounds.specs.Planning.{Cleared}
use Rattle.rounds.proofs.planner.clear_tasks.Given as goal

abbrev pub invariant-loop-t : goal.invariant-loop-t
invariant-loop-t l = KeptOutside (line_at l.capacity) (row_at l.capacity 0) l.initial.mem l.mem × Cleared l.capacity l.t (job_in l.initial.mem) l.mem
