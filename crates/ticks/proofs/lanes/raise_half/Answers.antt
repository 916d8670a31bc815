use Rattle.lists.proofs.Prelude.{◌≡◌, sym, ◌∙◌, ℕ, List, ◌<◌, ◌-◌, ◌+◌, ◌*◌, ◌/◌, ◌%◌, eqb, arith, eq-eqb, ne_eqb}
use Rattle.std.specs.Prelude.{if◌then◌else◌}
use Rattle.std.proofs.Common.{rules}
use lib.Ieee.{Float}
use Rattle.ticks.specs.Floats.{lane}
use Rattle.ticks.specs.Lanes as Lanes
use Rattle.ticks.proofs.LaneLaws.{lanes_none, lanes_idle}
use Rattle.ticks.proofs.lanes.raise_half.Goals as goal

-- What is done with lane p; those of the other half are kept.
abbrev done : List Float → ℕ → ℕ → Float → Float
done low h p z = if eqb (p / 8) (h % 2) then Lanes.greater z (lane low (p % 8)) else z

kept : (low : List Float) (h p : ℕ) → (p / 8 ≡ h % 2 → ⊥) → (z : Float) → done low h p z ≡ z
kept low h p n z = rw (ne_eqb (p / 8) (h % 2) n)

pub returns : goal.returns
returns c =
    let a = c.args in
    let k = a.h % 2 * 8 in
    let f = done a.low.now a.h in
    let xs = a.high.now in
    let e : 0 + k ≡ k = omega arith in
    let first = rw e at (lanes_idle f xs 0 k (λ p l g. kept a.low.now a.h p (λ q. omega arith))) in
    let all : k + 8 + (8 - k) ≡ 16 = omega arith in
    let last = rw all at (lanes_idle f xs (k + 8) (8 - k) (λ p g o. kept a.low.now a.h p (λ q. omega arith))) in
    let here : (p : ℕ) (z : Float) → p < 8 → Lanes.greater z (lane a.low.now p) ≡ f (k + p) z = λ p z b.
    let half : (k + p) / 8 ≡ a.h % 2 = omega arith in
    let place : (k + p) % 8 ≡ p = omega arith in
    rw (place, eq-eqb _ _ half) in
    c.merge.ensures f xs (λ p z r b q. search rules ∙ here p z b) (lanes_none f xs ∙ sym first) ∙ sym last
