-- Rows of numbers in a memory, and the rules of C and D lines.
use Rattle.lists.proofs.Prelude.{◌≡◌, refl, ap, sym, ◌∙◌, List, [], ◌∷◌, ◌++◌, true, false, ℕ, zero, suc, ◌+◌, ◌-◌, ◌*◌, ◌/◌, ◌<◌, ◌≤◌, arith, add-one, suc-mul, ltb-true, le-leb, lt-leb, eq-eqb, ne_eqb, length, take, drop, length-append, take-take, nth, any, Limits, refused, first_of, run_rule, delay_rule}
use native.Mathlib.Nat.{zero-add, suc-add, mul-le-mul_right, le-div_iff_mul-le, div-lt_iff_lt-mul}
use borrow.Rule.Slice.PartMut.{put_mid, take_put}
use lib.Seq.{take-nil}
use Rattle.lists.proofs.Over.{drop_lent}
use Rattle.rows.specs.Rows.{rows, rule_of, stray_of, wide, row_lines, rows_into}
use Rattle.rows.specs.declared.Kind.{Kind}
use Rattle.rows.specs.declared.Kind.TheVariants.{Runs, Delays}

-- The rules of row i, after the rows in `seen`.
module _ (l : Limits) (seen : List (List ℕ)) (row : List ℕ) (i : ℕ) (n : length seen ≡ i) where
  pub out_of_turn : (nth row 0 ≡ i → ⊥) → (kind : Kind) → 2 ≡ rule_of l kind seen row
  unfolding run_rule delay_rule first_of
  out_of_turn h Runs = rw (n, ne_eqb _ _ h)
  out_of_turn h Delays = rw (n, ne_eqb _ _ h)

  module _ (t : nth row 0 ≡ i) where
    pub out_of_range : (kind : Kind) → true ≡ any (stray_of l kind) (drop 1 row) → 3 ≡ rule_of l kind seen row
    unfolding run_rule delay_rule first_of
    out_of_range Runs e = rw (n, eq-eqb _ _ t, ← e)
    out_of_range Delays e = rw (n, eq-eqb _ _ t, ← e)

    module _ (kind : Kind) (e : false ≡ any (stray_of l kind) (drop 1 row)) where
      pub run_good : kind ≡ Runs → 0 ≡ rule_of l kind seen row
      unfolding run_rule first_of
      run_good k = let g = rw k at e in rw (k, n, eq-eqb _ _ t, ← g)

      module _ (k : kind ≡ Delays) where
        pub delay_self : (nth row (i + 1) ≡ 0 → ⊥) → 5 ≡ rule_of l kind seen row
        unfolding delay_rule first_of
        delay_self h = let g = rw k at e in let c : 1 + length seen ≡ i + 1 = omega arith in rw (k, c, n, eq-eqb _ _ t, ← g, ne_eqb (nth row (i + 1)) 0 h)

        pub delay_good : nth row (i + 1) ≡ 0 → 0 ≡ rule_of l kind seen row
        unfolding delay_rule first_of
        delay_good h = let g = rw k at e in let c : 1 + length seen ≡ i + 1 = omega arith in rw (k, c, n, eq-eqb _ _ t, ← g, eq-eqb (nth row (i + 1)) 0 h)

-- Rows that are wide enough for their kind.
module _ (k n : ℕ) (kind : Kind) (h : wide kind k n ≡ true) where
  pub some_number : 0 < k
  some_number = by kind h
    where
      by : (x : Kind) → wide x k n ≡ true → 0 < k
      by Runs w = ltb-true 0 k w
      by Delays w = omega (arith, ltb-true n k w)

-- Whether n rows fit so many cells.
module _ (l : Limits) (room : ℕ) (kind : Kind) (opening : List ℕ) (k n : ℕ) (s : List ℕ) where
  pub rows_narrow : wide kind k n ≡ false → refused 8 ≡ rows_into l room kind opening k n s
  unfolding rows_into
  rows_narrow w = rw w

  module _ (w : wide kind k n ≡ true) where
    pub rows_fit : n * k ≤ room → rows_into l room kind opening k n s ≡ row_lines l kind opening k n [] s
    unfolding rows_into
    rows_fit h = rw (w, le-leb (n * k) room h)

    -- As many rows as the cells give room for.
    pub rows_lent : n ≤ room / k → rows_into l room kind opening k n s ≡ row_lines l kind opening k n [] s
    rows_lent h = rows_fit ((le-div_iff_mul-le (some_number k n kind w)).0 h)

    pub rows_unfit : room / k < n → refused 8 ≡ rows_into l room kind opening k n s
    unfolding rows_into
    rows_unfit h = rw (w, lt-leb (n * k) room ((div-lt_iff_lt-mul (some_number k n kind w)).0 h))

-- A part that ends within the front.
drop_take : (a k : ℕ) (l : List ℕ) → drop a (take (a + k) l) ≡ take k (drop a l)
drop_take zero k l = rw zero-add
drop_take (suc a) k [] = rw (suc-add, take-nil k)
drop_take (suc a) k (x ∷ l) = rw suc-add (drop_take a k l)

-- Rows depend on their own cells only.
rows_same : (k n : ℕ) (d e : List ℕ) → take (n * k) d ≡ take (n * k) e → rows k n d ≡ rows k n e
unfolding rows
rows_same k zero d e h = refl
rows_same k (suc n) d e h =
    let c : suc n * k ≡ n * k + k = suc-mul n k in
    let m : n * k ≤ suc n * k = omega arith in
    let f : take (n * k) d ≡ take (n * k) e = sym (take-take (n * k) (suc n * k) d m) ∙ ap (take (n * k)) h ∙ take-take (n * k) (suc n * k) e m in
    let g : take k (drop (n * k) d) ≡ take k (drop (n * k) e) = sym (drop_take (n * k) k d) ∙ ap (drop (n * k)) (rw c at h) ∙ drop_take (n * k) k e in
    rw (rows_same k n d e f, g)

rows_more : (k n : ℕ) (d : List ℕ) → rows k (n + 1) d ≡ rows k n d ++ take k (drop (n * k) d) ∷ []
unfolding rows
rows_more k n d = rw add-one

pub length_rows : (k n : ℕ) (d : List ℕ) → length (rows k n d) ≡ n
unfolding rows
length_rows k zero d = refl
length_rows k (suc n) d = length-append (rows k n d) (take k (drop (n * k) d) ∷ []) ∙ rw (length_rows k n d) (omega arith)

-- A row ends within the rows.
pub row_ends : (i n k : ℕ) → i < n → i * k + k ≤ n * k
row_ends i n k h = omega (arith, suc-mul i k, mul-le-mul_right {m = suc i} {n = n} k h)

-- The memory from row i on was lent, `&mut d[a..]`, and holds ys now.
module _ (k i : ℕ) (d ys : List ℕ) (h : i * k ≤ length d) where
  abbrev new : List ℕ
  new = put_mid (i * k) (length d - i * k) d ys

  lent_rows : rows k i new ≡ rows k i d
  lent_rows = rows_same k i new d (take_put (i * k) (length d - i * k) d ys h)

  pub lent_more : rows k (i + 1) new ≡ rows k i d ++ take k ys ∷ []
  lent_more = rows_more k i new ∙ rw (lent_rows, drop_lent (i * k) d ys h)
