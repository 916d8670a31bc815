-- Lines with two replicas on one processor, and first finishes, replica by replica.
use Rattle.std.specs.Prelude.{if◌then◌else◌}
use Rattle.lists.proofs.Prelude.{◌≡◌, refl, ap, ◌∙◌, sym, ⊎_elim, List, [], ◌∷◌, Bool, true, false, ◌&&◌, true≢false, ℕ, zero, suc, ◌+◌, ◌-◌, ◌<◌, ◌≤◌, arith}
use Rattle.lists.proofs.Prelude.{add-one, eqb-true, eq-eqb, lt-ltb, le-ltb, length, take, drop, nth, empty}
use Rattle.definitions.proofs.Lists.{either, either_right, refuted}
use Rattle.lists.proofs.Counting.{last_or_before, goes_on}
use Rattle.lists.proofs.ListLaws.{part_length, part_nth}
use Rattle.ticks.specs.Cells.{never_cell}
use Rattle.replicas.specs.Cells.{on_cell, next_cell, early_cell, line_cell, replicas_of, twins, twice, cells_of, first_twice, least_early, least_on}

-- Neighbours --------------------------------------------------------------------------------------------------------

module _ (cells : List ℕ) where
  twins_more : (c n : ℕ) → c ≤ n → twins c cells ≡ true → twins n cells ≡ true
  unfolding twins
  twins_more = goes_on (λ n. twins n cells ≡ true) (λ n h. rw h)

  -- Where they are.
  pub twins_place : (n : ℕ) → twins n cells ≡ true → (c : ℕ) × (c < n) × (nth cells (on_cell c) ≡ nth cells (next_cell c))
  unfolding twins
  twins_place zero h = absurd (true≢false (sym h))
  twins_place (suc n) h = ⊎_elim (λ f. let (c, l, q) = twins_place n f in (c, omega arith, q)) (λ g. (n, omega arith, eqb-true _ _ g)) (either _ _ h)

  pub twins_before : (c n : ℕ) → c ≤ n → twins n cells ≡ false → twins c cells ≡ false
  twins_before c n l h = refuted (twins c cells) (λ e. true≢false (sym (twins_more c n l e) ∙ h))

  pub twins_apart : (c : ℕ) → twins (suc c) cells ≡ false → nth cells (on_cell c) ≡ nth cells (next_cell c) → ⊥
  unfolding twins
  twins_apart c h e = true≢false (sym (either_right (twins c cells) (eq-eqb _ _ e)) ∙ h)

-- Lines -------------------------------------------------------------------------------------------------------------

module _ (w : ℕ) (lines : List ℕ) where
  pub first_none : first_twice w 0 lines ≡ []
  unfolding first_twice
  first_none = refl

  pub first_next : (k : ℕ) → first_twice w k lines ≡ [] → false ≡ twice (cells_of w k lines) → first_twice w (k + 1) lines ≡ []
  unfolding first_twice
  first_next k h n = rw (add-one k, h, ← n)

  first_stays : (t c n : ℕ) → c ≤ n → first_twice w c lines ≡ t ∷ [] → first_twice w n lines ≡ t ∷ []
  unfolding first_twice
  first_stays t = goes_on (λ n. first_twice w n lines ≡ t ∷ []) (λ n h. rw h)

  first_yes : (k : ℕ) → first_twice w k lines ≡ [] → true ≡ twice (cells_of w k lines) → first_twice w (suc k) lines ≡ nth lines (line_cell k) ∷ []
  unfolding first_twice
  first_yes k h e = rw (h, ← e)

  pub first_here : (k n : ℕ) → k < n → first_twice w k lines ≡ [] → true ≡ twice (cells_of w k lines) → nth lines (line_cell k) ∷ [] ≡ first_twice w n lines
  first_here k n l h e = sym (first_stays (nth lines (line_cell k)) (suc k) n (omega arith) (first_yes k h e))

  -- What the answer says of the lines.
  pub first_all : (n : ℕ) → first_twice w n lines ≡ [] → (k : ℕ) → k < n → twice (cells_of w k lines) ≡ false
  unfolding first_twice
  first_all zero h k l = elim l [ ]
  first_all (suc n) h k l = by (first_all n) (first_twice w n lines) refl (twice (cells_of w n lines)) refl h
    where
      by : (first_twice w n lines ≡ [] → (k : ℕ) → k < n → twice (cells_of w k lines) ≡ false) → (a : List ℕ) → first_twice w n lines ≡ a → (b : Bool) → twice (cells_of w n lines) ≡ b
          → (if empty a && b then nth lines (line_cell n) ∷ [] else a) ≡ []
          → twice (cells_of w k lines) ≡ false
      by r (x ∷ a) f b g e = absurd (true≢false (sym (ap empty e)))
      by r [] f true g e = absurd (true≢false (sym (ap empty e)))
      by r [] f false g e = ⊎_elim (λ (q : k ≡ n). rw q g) (λ (m : k < n). r f k m) (last_or_before n k l)

  pub first_some : (t n : ℕ) → first_twice w n lines ≡ t ∷ [] → (k : ℕ) × (k < n) × (twice (cells_of w k lines) ≡ true) × (nth lines (line_cell k) ≡ t)
  unfolding first_twice
  first_some t zero h = absurd (true≢false (ap empty h))
  first_some t (suc n) h = by (first_some t n) (first_twice w n lines) refl (twice (cells_of w n lines)) refl h
    where
      by : (first_twice w n lines ≡ t ∷ [] → (k : ℕ) × (k < n) × (twice (cells_of w k lines) ≡ true) × (nth lines (line_cell k) ≡ t)) → (a : List ℕ) → first_twice w n lines ≡ a → (b : Bool)
          → twice (cells_of w n lines) ≡ b → (if empty a && b then nth lines (line_cell n) ∷ [] else a) ≡ t ∷ []
          → (k : ℕ) × (k < suc n) × (twice (cells_of w k lines) ≡ true) × (nth lines (line_cell k) ≡ t)
      by r [] f false g e = absurd (true≢false (ap empty e))
      by r [] f true g e = (n, omega arith, g, ap (λ (l : List ℕ). nth l 0) e)
      by r (x ∷ a) f b g e = let (k, l, p, q) = r (f ∙ e) in (k, omega arith, p, q)

-- First finishes ----------------------------------------------------------------------------------------------------

pub least_none : (cells : List ℕ) → (least_early 0 cells ≡ never_cell) × (least_on 0 cells ≡ 0)
unfolding least_early least_on
least_none cells = (refl, refl)

module _ (cells : List ℕ) (c : ℕ) where
  pub least_sooner : nth cells (early_cell c) < least_early c cells
      → (nth cells (early_cell c) ≡ least_early (c + 1) cells) × (nth cells (on_cell c) ≡ least_on (c + 1) cells)
  unfolding least_early least_on
  least_sooner h = rw (add-one c, lt-ltb _ _ h) (refl, refl)

  pub least_stays : least_early c cells ≤ nth cells (early_cell c)
      → (least_early c cells ≡ least_early (c + 1) cells) × (least_on c cells ≡ least_on (c + 1) cells)
  unfolding least_early least_on
  least_stays h = rw (add-one c, le-ltb _ _ h) (refl, refl)

-- The cells of a line -----------------------------------------------------------------------------------------------

-- The cells of the first w replicas of the line at a of a memory, as they are looked at.
abbrev pub cells_at : ℕ → ℕ → List ℕ → List ℕ
cells_at a w mem = take (a + 1 + on_cell w - (a + 1)) (drop (a + 1) mem)

module _ (mem : List ℕ) (a w : ℕ) (h : a + (1 + on_cell w) ≤ length mem) where
  pub cells_count : replicas_of (length (cells_at a w mem)) ≡ w
  cells_count = omega (arith, part_length mem (a + 1) (a + 1 + on_cell w - (a + 1)) (omega arith))

  cells_nth : (c i : ℕ) → on_cell c + i < on_cell w → nth (cells_at a w mem) (on_cell c + i) ≡ nth mem (a + (1 + i + on_cell c))
  cells_nth c i l =
      let e : a + 1 + (on_cell c + i) ≡ a + (1 + i + on_cell c) = omega arith in
      part_nth mem (a + 1) (a + 1 + on_cell w - (a + 1)) (on_cell c + i) (omega arith) ∙ ap (nth mem) e

  -- The processor of replica c, and its early time.
  pub cells_on : (c : ℕ) → c < w → nth (cells_at a w mem) (on_cell c) ≡ nth mem (a + (1 + on_cell c))
  cells_on c l = let e : on_cell c + 0 ≡ on_cell c = omega arith in rw e at (cells_nth c 0 (omega arith))

  pub cells_early : (c : ℕ) → c < w → nth (cells_at a w mem) (early_cell c) ≡ nth mem (a + (2 + on_cell c))
  cells_early c l = cells_nth c 1 (omega arith)
