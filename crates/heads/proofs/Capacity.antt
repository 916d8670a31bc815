-- The capacity that a job needs.
use Rattle.std.specs.Prelude.{if◌then◌else◌}
use Rattle.lists.proofs.Prelude.{◌≡◌, refl, Bool, true, false, ℕ, ◌+◌, ◌≤◌, arith, mul-le-mul, leb-true, le-leb, eqb-true, eq-eqb, Limits, document01, JobHead, job_head_rule}
use Rattle.definitions.proofs.Lists.{both, both_true}
use Rattle.definitions.proofs.Reading.{job_head_parts}
use Rattle.heads.specs.Layout.{memory_size, links_room, FitsIn, has_room, capacity_for, largest}
use Rattle.heads.specs.Heads.{roomy}

-- The largest job of document 01 fits a memory of capacity 32.
pub largest_fits : FitsIn 32 (largest document01)
largest_fits = (omega arith, omega arith, omega arith)

-- Every job does, if the largest does.
pub fits_most : (l : Limits) → FitsIn 32 (largest l) → (h : JobHead) → job_head_rule l h ≡ 0 → FitsIn 32 h
fits_most l (a, b, c) h z =
    let (_, v, _, m, e, _, _) = job_head_parts l h z in
    let w = mul-le-mul {n₁ = h.tasks + h.processors} {m₁ = h.processors + 1} {n₂ = l.tasks + l.processors} {m₂ = l.processors + 1} (omega (arith, v, m)) (omega (arith, m)) in
    (omega (arith, v, a), omega (arith, e, b), omega (arith, w, e, c))

-- A job fits a larger memory too.
pub fits_larger : (a b : ℕ) (h : JobHead) → a ≤ b → FitsIn a h → FitsIn b h
fits_larger a b h l (v, e, k) = (omega (arith, l, v), omega (arith, l, e), omega (arith, l, k))

module _ (capacity : ℕ) (h : JobHead) where
  -- The test finds out whether a job fits.
  room_fits : has_room capacity h ≡ true → FitsIn capacity h
  unfolding has_room
  room_fits e = let (f, c) = both _ _ e in let (a, b) = both _ _ f in (leb-true _ _ a, leb-true _ _ b, leb-true _ _ c)

  fits_room : FitsIn capacity h → has_room capacity h ≡ true
  unfolding has_room
  fits_room (a, b, c) = both_true (both_true (le-leb _ _ a) (le-leb _ _ b)) (le-leb _ _ c)

-- The capacity that a job is given is 1, 2, 8 or 32.
capacity_cases : (h : JobHead) (P : ℕ → Type 0) → (has_room 1 h ≡ true → P 1) → (has_room 2 h ≡ true → P 2) → (has_room 8 h ≡ true → P 8) → P 32 → P (capacity_for h)
unfolding capacity_for
capacity_cases h P = by (has_room 1 h) (has_room 2 h) (has_room 8 h)
  where
    by : (a b c : Bool) → (a ≡ true → P 1) → (b ≡ true → P 2) → (c ≡ true → P 8) → P 32 → P (if a then 1 else (if b then 2 else (if c then 8 else 32)))
    by true b c f g k m = f refl
    by false true c f g k m = g refl
    by false false true f g k m = k refl
    by false false false f g k m = m

-- A job whose head has passed its rule fits them.
pub capacity_fits : (l : Limits) → FitsIn 32 (largest l) → (h : JobHead) → job_head_rule l h ≡ 0 → FitsIn (capacity_for h) h
capacity_fits l u h z = capacity_cases h (λ n. FitsIn n h) (room_fits 1 h) (room_fits 2 h) (room_fits 8 h) (fits_most l u h z)

-- The test of a memory and a head.
module _ (capacity size links : ℕ) (h : JobHead) where
  pub roomy_parts : roomy capacity size links h ≡ true → (capacity ≤ 32) × (size ≡ memory_size capacity) × (links_room capacity ≤ links) × FitsIn capacity h
  unfolding roomy
  roomy_parts e =
      let (g, d) = both _ _ e in
      let (f, c) = both _ _ g in
      let (a, b) = both _ _ f in
      (leb-true _ _ a, eqb-true _ _ b, leb-true _ _ c, room_fits capacity h d)

  pub roomy_made : capacity ≤ 32 → size ≡ memory_size capacity → links_room capacity ≤ links → FitsIn capacity h → roomy capacity size links h ≡ true
  unfolding roomy
  roomy_made a b c d = both_true (both_true (both_true (le-leb _ _ a) (eq-eqb _ _ b)) (le-leb _ _ c)) (fits_room capacity h d)
