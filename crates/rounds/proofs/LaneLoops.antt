-- Tables that are filled lane by lane: one lane more, the ends of a line.
use Rattle.lists.proofs.Prelude.{◌≡◌, ⊎_elim, List, ℕ, ◌+◌, ◌<◌, arith, length, set, get_or-set_same, get_or-set_other}
use lib.Ieee.{Float, nan}
use Rattle.lists.proofs.Counting.{last_or_before}
use Rattle.ticks.specs.Floats.{lane}

-- What holds of the first n lanes, with one lane more.
pub each_lane : (P : ℕ → Float → Type 0) (xs : List Float) (n : ℕ) (x : Float) → n < length xs → ((i : ℕ) → i < n → P i (lane xs i)) → P n x
    → (i : ℕ) → i < n + 1 → P i (lane (set xs n x) i)
each_lane P xs n x h g e i l =
    ⊎_elim (λ (q : i ≡ n). rw (q, get_or-set_same xs n x nan h) e) (λ b. rw (get_or-set_other xs n i x nan (λ q. omega arith)) (g i b)) (last_or_before n i (omega arith))
