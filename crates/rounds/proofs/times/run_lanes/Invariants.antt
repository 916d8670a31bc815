-- The lanes before p hold the finishes.
use Rattle.lists.proofs.Prelude.{◌≡◌, ℕ, ◌≤◌, ◌<◌, length, nth, tick, after, run_time}
use Rattle.ticks.specs.Floats.{lane_time}
use Rattle.jobs.specs.Held.{job_in}
use Rattle.rounds.proofs.times.run_lanes.Given as goal

abbrev pub invariant-loop-p : goal.invariant-loop-p
invariant-loop-p l =
    (length l.finishes ≡ 16) × (l.p-end ≤ 16)
    × ((q : ℕ) → q < l.p → tick (nth l.finishes q) ≡ after (run_time (job_in l.mem) l.t q) (lane_time l.starts q))
