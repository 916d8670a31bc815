-- The table of powers of ten, and the width that it decides.
use Rattle.std.specs.Prelude.{if◌then◌else◌}
use Rattle.lists.proofs.Prelude.{◌≡◌, ap, ◌∙◌, sym, List, [], ◌∷◌, ℕ, zero, suc, ◌+◌, ◌-◌, ◌*◌, ◌^◌, ◌<◌, ◌≤◌, arith, lt-ltb, le-ltb, ltb, get_or, width_from}
use native.Mathlib.Nat.{pow-succ', mul_assoc}

-- k numbers, the first is p, each of the others ten times the one before.
abbrev pub tenfold : ℕ → ℕ → List ℕ
tenfold zero p = []
tenfold (suc k) p = p ∷ tenfold k (p * 10)

tenfold_at : (k p d : ℕ) → d < k → get_or (tenfold k p) d 0 ≡ p * 10 ^ d
tenfold_at zero p d h = absurd (omega arith)
tenfold_at (suc k) p zero h = omega arith
tenfold_at (suc k) p (suc d) h = tenfold_at k (p * 10) d (omega arith) ∙ mul_assoc p 10 (10 ^ d) ∙ ap (λ (x : ℕ). p * x) (sym (pow-succ' 10 d))

-- The width of n is at least d, which is below the most: one turn of the search.
module _ (most d n : ℕ) (h : d < most) where
  turn : width_from (most - d) d n ≡ if ltb n (get_or (tenfold most 1) d 0) then d else width_from (most - (d + 1)) (d + 1) n
  unfolding width_from
  turn =
      let e : most - d ≡ suc (most - (d + 1)) = omega arith in
      let p : get_or (tenfold most 1) d 0 ≡ 10 ^ d = tenfold_at most 1 d h ∙ omega arith in
      rw (e, p)

  pub width_stop : n < get_or (tenfold most 1) d 0 → width_from (most - d) d n ≡ d
  width_stop t = turn ∙ rw (lt-ltb _ _ t)

  pub width_next : get_or (tenfold most 1) d 0 ≤ n → width_from (most - d) d n ≡ width_from (most - (d + 1)) (d + 1) n
  width_next t = turn ∙ rw (le-ltb _ _ t)

pub width_end : (most d n : ℕ) → d ≡ most → width_from (most - d) d n ≡ most
unfolding width_from
width_end most d n h = let e : most - d ≡ 0 = omega arith in rw (e, h)
