-- The places passed hold the largest delays, and nothing else changed.
use Rattle.lists.proofs.Prelude.{◌≡◌, ℕ, ◌<◌, ◌+◌, nth, largest_delay}
use Rattle.heads.specs.Layout.{memory_size, largest_delay_at}
use Rattle.jobs.specs.Held.{job_in}
use Rattle.lists.specs.Kept.{KeptOutside}
use Rattle.rounds.proofs.priority.fill_largest_delays.Given as goal

abbrev pub invariant-loop-p : goal.invariant-loop-p
invariant-loop-p l =
    KeptOutside (largest_delay_at l.capacity) (memory_size l.capacity) l.initial.mem l.mem
    × ((q : ℕ) → q < l.p → nth l.mem (largest_delay_at l.capacity + q) ≡ largest_delay (job_in l.initial.mem) q)
