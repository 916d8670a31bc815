-- x is the largest over the edges passed.
use Rattle.lists.proofs.Prelude.{◌≡◌, ◌≤◌, ◌+◌, outgoing, tick, document01}
use Rattle.orders.proofs.Walk.{Passed}
use Rattle.jobs.specs.Held.{job_in}
use Rattle.rounds.specs.Levels.{sent, sent_most, level_most}
use Rattle.rounds.proofs.TimeLaws.{gathered}
use Rattle.rounds.proofs.levels.longest_after.Given as goal

abbrev pub invariant-loop-k : goal.invariant-loop-k
invariant-loop-k l =
    let first = l.g + l.initial.k in
    let next = l.g + l.k in
    Passed first (l.g + l.k-end) l.mem (outgoing (job_in l.mem) l.t) next
    × (l.x ≤ sent_most document01 + level_most document01)
    × (tick l.x ≡ gathered (λ e. tick (sent l.house.capacity l.mem e)) first l.mem next)
