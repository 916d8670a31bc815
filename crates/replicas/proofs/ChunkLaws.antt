-- A line's cells and a replica's as arrays that are cut off a slice, and the pairs of neighbours among them.
use lib.Seq.{drop-drop}
use Rattle.std.proofs.Math.Bool.{or_assoc}
use Rattle.std.proofs.lemmas.Iterator.{YieldsList}
use Rattle.std.proofs.lemmas.List.{drop-take}
use Rattle.std.specs.List.{list_any}
use Rattle.std.specs.Simd.{first_chunks}
use Rattle.std.specs.Slice.Iter.{windows_rest, windows_size}
use Rattle.std.specs.Slice.ArrayWindows.{array_windows_parts, array_windows_steps}
use Rattle.std.specs.declared.slice.ArrayWindows.{ArrayWindows}
use Rattle.std.specs.Iterator.{AlwaysYields}
use Rattle.lists.proofs.Prelude.{◌≡◌, refl, ap, ap₂, ◌∙◌, sym, List, [], ◌∷◌, Bool, ◌||◌, or-false, ℕ, zero, suc, ◌+◌, ◌*◌, ◌-◌, ◌<◌, ◌≤◌, arith, eqb, length}
use Rattle.lists.proofs.Prelude.{take, drop, get_or, get_or-take, get_or-drop, take-take, nth}
use Rattle.lists.proofs.Chunks.{chunk, chunk_cell}
use Rattle.replicas.specs.Cells.{on_cell, next_cell, early_cell, line_cell, cells_of, twins}

module _ (k c : ℕ) (h : c < k) (cells : List ℕ) {parts : List (List ℕ)} where
  -- The replicas of the cells: the processor of replica c, and its early time.
  pub replica_on : parts ≡ first_chunks 3 k cells → nth (get_or parts c []) 0 ≡ nth cells (on_cell c)
  replica_on e = rw e (chunk_cell 3 k c 0 cells h (omega arith) ∙ ap (nth cells) (omega arith))

  pub replica_early : parts ≡ first_chunks 3 k cells → nth (get_or parts c []) 1 ≡ nth cells (early_cell c)
  replica_early e = rw e (chunk_cell 3 k c 1 cells h (omega arith))

  -- The lines of the cells: the task of line c, and the cells of its first w replicas.
  pub row_task : parts ≡ first_chunks 25 k cells → nth (get_or parts c []) 0 ≡ nth cells (line_cell c)
  row_task e = rw e (chunk_cell 25 k c 0 cells h (omega arith) ∙ ap (nth cells) (omega arith))

  pub row_replicas : parts ≡ first_chunks 25 k cells → (w : ℕ) → w ≤ 8 → take (1 + on_cell w - 1) (drop 1 (get_or parts c [])) ≡ cells_of w c cells
  row_replicas e w l =
      let n : 1 + on_cell w - 1 ≡ on_cell w = omega arith in
      rw (e, chunk 25 k c cells h, n)
      (ap (take (on_cell w)) (drop-take 1 24 (drop (c * 25) cells)) ∙ take-take (on_cell w) 24 (drop 1 (drop (c * 25) cells)) (omega arith)
      ∙ ap (take (on_cell w)) (drop-drop 1 (c * 25) cells))

-- The pairs of neighbours.
abbrev pub pairs : {A : Type 0} → List A → List (List A)
pairs [] = []
pairs (x ∷ []) = []
pairs (x ∷ y ∷ xs) = (x ∷ y ∷ []) ∷ pairs (y ∷ xs)

pairs_yielded : {A : Type 0} (xs : List A) (s : ArrayWindows A 2) → windows_rest (array_windows_parts s) ≡ xs → windows_size (array_windows_parts s) ≡ 2
    → AlwaysYields array_windows_steps (λ y. y.now) s (pairs xs)
pairs_yielded [] s e f = λ x j p. let l = ap length e in omega (arith, p.1.0, f, l)
pairs_yielded (x ∷ []) s e f = λ w j p. let l = ap length e in omega (arith, p.1.0, f, l)
pairs_yielded (x ∷ y ∷ xs) s e f = (
  (λ j p. let l = ap length e in omega (arith, p.1.0, f, l)),
  λ w j p. (p.1.1 ∙ ap₂ take f e, pairs_yielded (y ∷ xs) j (p.1.2 ∙ ap (drop 1) e) (p.0 ∙ f)),
)

pub YieldsList-from_pairs : {A : Type 0} {s : ArrayWindows A 2} (xs : List A) → windows_rest (array_windows_parts s) ≡ xs → windows_size (array_windows_parts s) ≡ 2
    → YieldsList array_windows_steps (λ y. y.now) s (pairs xs)
YieldsList-from_pairs xs e f = record { runs = pairs_yielded xs _ e f }

-- Two neighbours are on one processor.
abbrev pub together : List (List ℕ) → Bool
together pair = eqb (nth (get_or pair 0 []) 0) (nth (get_or pair 1 []) 0)

twins_first : (n : ℕ) (cells : List ℕ) → twins (suc n) cells ≡ (eqb (nth cells 0) (nth cells 3) || twins n (drop 3 cells))
unfolding twins
twins_first zero cells = sym (or-false _)
twins_first (suc n) cells =
    let e : 3 + on_cell n ≡ on_cell (suc n) = omega arith in
    let f : 3 + next_cell n ≡ next_cell (suc n) = omega arith in
    rw (twins_first n cells, get_or-drop 3 cells (on_cell n) 0, get_or-drop 3 cells (next_cell n) 0, e, f)
    (or_assoc (eqb (nth cells 0) (nth cells 3)) (twins n (drop 3 cells)) (eqb (nth cells (on_cell (suc n))) (nth cells (next_cell (suc n)))))

pub twins_any : (n : ℕ) (cells : List ℕ) → list_any together (pairs (first_chunks 3 n cells)) ≡ twins (n - 1) cells
unfolding twins
twins_any zero cells = refl
twins_any (suc zero) cells = refl
twins_any (suc (suc n)) cells =
    let e : suc (suc n) - 1 ≡ suc n = omega arith in
    let f : suc n - 1 ≡ n = omega arith in
    let a : nth (take 3 cells) 0 ≡ nth cells 0 = get_or-take 3 cells 0 0 (omega arith) in
    let b : nth (take 3 (drop 3 cells)) 0 ≡ nth cells 3 = get_or-take 3 (drop 3 cells) 0 0 (omega arith) ∙ get_or-drop 3 cells 0 0 in
    ap₂ ◌||◌ (ap₂ eqb a b) (rw f at (twins_any (suc n) (drop 3 cells))) ∙ sym (twins_first n cells) ∙ ap (λ (i : ℕ). twins i cells) (sym e)
