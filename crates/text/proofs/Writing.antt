-- Digits and fixed bytes written over a list from a place on.
use Rattle.lists.proofs.Prelude.{◌≡◌, refl, ap, ◌∙◌, sym, List, [], ◌∷◌, ◌++◌, ℕ, zero, suc, ◌+◌, ◌-◌, ◌/◌, ◌%◌, ◌<◌, ◌≤◌, arith, add-one, le-leb, lt-leb, length, get_or, drop, set, length-set, length-append, drop_of_length-le, drop-cons}
use Rattle.definitions.specs.Text.{low_digits}
use Rattle.lists.specs.Over.{over}
use Rattle.lists.proofs.Over.{over_nil, over_put, over_set_after, over_over, length_over}
use Rattle.text.specs.Meaning.{written, place_after}

-- Digits from the lowest on --------------------------------------------------------------------------------------

-- l after the d low digits of n were stored, the lowest first.
unfoldable pub stored : List ℕ → ℕ → ℕ → ℕ → List ℕ
stored l at zero n = l
stored l at (suc d) n = stored (set l (at + d) (48 + n % 10)) at d (n / 10)

module _ (l : List ℕ) (at d n : ℕ) where
  pub stored_end : d ≤ 0 → stored l at d n ≡ l
  unfolding stored
  stored_end h = let e : d ≡ 0 = omega arith in rw e

  pub stored_next : 0 < d → stored l at d n ≡ stored (set l (at + (d - 1)) (48 + n % 10)) at (d - 1) (n / 10)
  unfolding stored
  stored_next h = let e : d ≡ suc (d - 1) = omega arith in ap (λ (j : ℕ). stored l at j n) e

length_low : (d n : ℕ) → length (low_digits d n) ≡ d
unfolding low_digits
length_low zero n = refl
length_low (suc d) n = omega (arith, length-append (low_digits d (n / 10)) ((48 + n % 10) ∷ []), length_low d (n / 10))

pub stored_all : (d : ℕ) (l : List ℕ) (at n : ℕ) → at + d ≤ length l → stored l at d n ≡ over l at (low_digits d n)
unfolding stored low_digits
stored_all zero l at n h = sym (over_nil l at)
stored_all (suc d) l at n h =
    let e = length_low d (n / 10) in
    stored_all d (set l (at + d) (48 + n % 10)) at (n / 10) (simp length-set (omega arith))
    ∙ over_set_after l at (low_digits d (n / 10)) (at + d) (48 + n % 10) (omega arith) (omega arith)

-- Bytes from the first on ----------------------------------------------------------------------------------------

-- The bytes p from number i on are yet to be written over l, at k.
module _ (l p g : List ℕ) (k i : ℕ) (left : over l k (drop i p) ≡ g) where
  pub copy_next : (m : ℕ) → m ≡ k + 1 → i < length p → k < length l → over (set l k (get_or p i 0)) m (drop (i + 1) p) ≡ g
  copy_next m e h r = over_put l k _ _ m e r ∙ ap (over l k) (sym (rw add-one (drop-cons p i 0 h))) ∙ left

  pub copy_end : length p ≤ i → l ≡ g
  copy_end h = sym (over_nil l k) ∙ ap (over l k) (sym (drop_of_length-le p h)) ∙ left

-- What a writer leaves -------------------------------------------------------------------------------------------

module _ (d : List ℕ) (at : ℕ) (t : List ℕ) where
  pub written_fits : at + length t ≤ length d → written d at t ≡ over d at t
  written_fits h = rw (le-leb _ _ h)

  pub written_unfit : length d < at + length t → written d at t ≡ d
  written_unfit h = rw (lt-leb _ _ h)

  pub place_fits : at + length t ≤ length d → place_after d at t ≡ at + length t
  place_fits h = rw (le-leb _ _ h)

  -- The answers n and e, where t fits, and where it does not.
  pub fits : at + length t ≤ length d → (n : ℕ) (e : List ℕ) → n ≡ at + length t → e ≡ over d at t → (n ≡ place_after d at t) × (e ≡ written d at t)
  fits h n e f g = rw (le-leb _ _ h) (f, g)

  pub unfit : length d < at + length t → (at ≡ place_after d at t) × (d ≡ written d at t)
  unfit h = rw (lt-leb _ _ h) (refl, refl)

-- x is the output d with s written from `at` on, m the place after s, and there is room for t behind s.
module _ (d x : List ℕ) (at m : ℕ) (s t : List ℕ) (e : x ≡ over d at s) (em : m ≡ at + length s) (h : at + length (s ++ t) ≤ length d) where
  room : at + length s + length t ≤ length d
  room = omega (arith, length-append s t)

  behind : m + length t ≤ length x
  behind = omega (arith, room, ap length e, length_over d at s (omega (arith, room)))

  pub written_more : written x m t ≡ over d at (s ++ t)
  written_more = written_fits x m t behind ∙ ap (λ (l : List ℕ). over l m t) e ∙ over_over d at s t m em (omega (arith, room))

  pub place_more : place_after x m t ≡ at + length (s ++ t)
  place_more = place_fits x m t behind ∙ omega (arith, length-append s t)
