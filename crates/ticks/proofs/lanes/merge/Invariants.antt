-- The lanes before p are done.
use Rattle.lists.proofs.Prelude.{◌≡◌, ◌<◌, ◌+◌, ℕ, List}
use lib.Ieee.{Float}
use Rattle.ticks.specs.Floats.{lane}
use Rattle.ticks.specs.Lanes.{lanes}
use Rattle.ticks.proofs.lanes.merge.Given as goal

abbrev pub invariant-loop-p : goal.invariant-loop-p
invariant-loop-p g l =
    (h : ℕ → Float → Float) (xs : List Float) → ((p : ℕ) (z r : Float) → p < 8 → goal.F-post g l.f z (lane l.low p) r → r ≡ h (l.a + p) z)
    → l.initial.high ≡ lanes h l.a xs → l.high ≡ lanes h (l.a + l.p) xs
