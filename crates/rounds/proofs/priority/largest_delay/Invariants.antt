-- The greatest is that of the processors passed.
use Rattle.lists.proofs.Prelude.{◌≡◌, map, below, greatest, delay}
use Rattle.jobs.specs.Held.{job_in}
use Rattle.rounds.proofs.priority.largest_delay.Given as goal

abbrev pub invariant-loop-q : goal.invariant-loop-q
invariant-loop-q l = l.x ≡ greatest (map (delay (job_in l.mem) l.p) (below l.q))
