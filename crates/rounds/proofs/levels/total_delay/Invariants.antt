-- The sum is that of the rows passed.
use Rattle.lists.proofs.Prelude.{◌≡◌, ◌+◌, nth, below, sum, map}
use Rattle.rounds.specs.Levels.{row_sum}
use Rattle.rounds.proofs.levels.total_delay.Given as goal

abbrev pub invariant-loop-p : goal.invariant-loop-p
invariant-loop-p l = l.x ≡ sum (map (λ i. row_sum l.mem (nth l.mem 0 + i)) (below l.p))
