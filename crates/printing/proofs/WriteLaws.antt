-- The numbers that end a line, counted, and written one after another.
use Rattle.lists.proofs.Prelude.{◌≡◌, refl, ap, sym, ◌∙◌, List, [], ◌∷◌, ◌++◌, Bool, true, false, ℕ, suc, ◌+◌, ◌*◌, ◌-◌, ◌%◌, ◌^◌, ◌<◌, ◌≤◌, arith, add-one}
use Rattle.lists.proofs.Prelude.{le-leb, lt-leb, leb-true, leb-false, leb, length, drop, set, length-append, length-drop, drop_of_length-le, drop-cons, nth}
use Rattle.lists.proofs.Prelude.{Limits, mark, width, decimal, numbers_text, line_text, document01}
use Rattle.std.proofs.Common.{mul-suc}
use Rattle.std.specs.List.{sum_by}
use Rattle.std.proofs.lemmas.Grind.{common_steps}
use Rattle.definitions.proofs.Decimal.{width_powers, length_none, length_numbers, length_line}
use Rattle.lists.specs.Over.{over}
use Rattle.lists.proofs.Over.{over_put, over_over, over_then, length_over}
use Rattle.text.specs.Meaning.{written, place_after}
use Rattle.text.proofs.Writing.{written_fits, place_fits}

module _ (l : Limits) where
  -- The numbers from i on.
  module _ (vals : List ℕ) (i : ℕ) where
    text_next : i < length vals → numbers_text l (drop i vals) ≡ decimal l (nth vals i) ++ mark (length vals - (i + 1)) ∷ numbers_text l (drop (i + 1) vals)
    unfolding numbers_text
    text_next h = rw (drop-cons vals i 0 h, add-one i) (ap (λ (k : ℕ). decimal l (nth vals i) ++ mark k ∷ numbers_text l (drop (suc i) vals)) (length-drop (suc i) vals))

    pub text_end : length vals ≤ i → numbers_text l (drop i vals) ≡ []
    unfolding numbers_text
    text_end h = rw (drop_of_length-le vals h)

  -- The numbers from i on are yet to be written over d from p on; number i was written, and its mark is to be stored behind it.
  module _ (vals : List ℕ) (i : ℕ) (h : i < length vals) (d : List ℕ) (p : ℕ) (r : p + length (numbers_text l (drop i vals)) ≤ length d) (x : List ℕ) (q : ℕ)
      (e : x ≡ written d p (decimal l (nth vals i))) (f : q ≡ place_after d p (decimal l (nth vals i))) where
    size : length (decimal l (nth vals i)) + 1 + length (numbers_text l (drop (i + 1) vals)) ≡ length (numbers_text l (drop i vals))
    size = omega (arith, simp length-append at (ap length (text_next vals i h)))

    over_number : x ≡ over d p (decimal l (nth vals i))
    over_number = e ∙ written_fits d p (decimal l (nth vals i)) (omega (arith, size))

    place_number : q ≡ p + length (decimal l (nth vals i))
    place_number = f ∙ place_fits d p (decimal l (nth vals i)) (omega (arith, size))

    -- The place after the mark, the output's length, and what the mark and the other numbers give.
    pub turn : (q + 1 + length (numbers_text l (drop (i + 1) vals)) ≡ p + length (numbers_text l (drop i vals))) × (length x ≡ length d)
        × ((b : ℕ) → b ≡ mark (length vals - (i + 1)) → over (set x q b) (q + 1) (numbers_text l (drop (i + 1) vals)) ≡ over d p (numbers_text l (drop i vals)))
    turn =
        let u = numbers_text l (drop (i + 1) vals) in
        let same = ap length over_number ∙ length_over d p (decimal l (nth vals i)) (omega (arith, size)) in (
          omega (arith, size, place_number),
          same,
          λ b g. over_put x q b u (q + 1) refl (omega (arith, size, place_number, same))
              ∙ ap (λ (l : List ℕ). over l q (b ∷ u)) over_number
              ∙ over_over d p (decimal l (nth vals i)) (b ∷ u) q place_number (omega (arith, size))
              ∙ ap (over d p) (ap (λ (y : ℕ). decimal l (nth vals i) ++ y ∷ u) g ∙ sym (text_next vals i h)),
        )

  -- A line is to be written at the front of d; its opening was written.
  module _ (d opening vals : List ℕ) (h : length (line_text l opening vals) ≤ length d) (x : List ℕ) (p : ℕ)
      (e : x ≡ written d 0 opening) (f : p ≡ place_after d 0 opening) where
    over_opening : x ≡ over d 0 opening
    over_opening = e ∙ written_fits d 0 opening (omega (arith, length_line l opening vals))

    place_opening : p ≡ 0 + length opening
    place_opening = f ∙ place_fits d 0 opening (omega (arith, length_line l opening vals))

    pub numbers_room : p + length (numbers_text l vals) ≤ length x
    numbers_room = let f = length_line l opening vals in omega (arith, place_opening, ap length over_opening, length_over d 0 opening (omega arith))

    pub line_written : length d < 2 ^ 64 → (q : ℕ) (y : List ℕ) → q ≡ p + length (numbers_text l vals) → y ≡ over x p (numbers_text l vals)
        → (q ≡ length (line_text l opening vals) % 2 ^ 64) × (y ≡ written d 0 (line_text l opening vals))
    unfolding line_text
    line_written b q y g k = (
      omega (arith, length_line l opening vals, place_opening, g, h, b),
      over_then d x y 0 opening (numbers_text l vals) p over_opening k place_opening (omega (arith, length_line l opening vals))
          ∙ sym (written_fits d 0 (line_text l opening vals) (omega (arith, h))),
    )

  -- What the numbers take, summed.
  pub numbers_summed : (vals : List ℕ) → sum_by (λ x. width l x + 1) vals ≡ length (numbers_text l vals)
  numbers_summed [] = sym (length_none l)
  numbers_summed (v ∷ vals) = grind (arith, common_steps, length_numbers l v vals, numbers_summed vals)

  -- Numbers are printed with a digit at least, and so take a digit for each power of ten at most, and a mark.
  module _ (least : 1 ≤ l.powers) where
    pub numbers_most : (vals : List ℕ) → length (numbers_text l vals) ≤ (l.powers + 1) * length vals
    numbers_most [] = omega (arith, length_none l)
    numbers_most (v ∷ vals) = rw (mul-suc (l.powers + 1) (length vals)) (omega (arith, length_numbers l v vals, width_powers l v least, numbers_most vals))

    module _ (opening vals : List ℕ) where
      pub line_most : length (line_text l opening vals) ≤ length opening + (l.powers + 1) * length vals
      line_most = omega (arith, length_line l opening vals, numbers_most vals)

      -- A line of few numbers is counted exactly.
      pub few_counted : (n r : ℕ) → length opening + (l.powers + 1) * length vals ≤ n → n < 2 ^ 64 → r ≡ length (line_text l opening vals) % 2 ^ 64
          → (r ≡ length (line_text l opening vals)) × (r ≤ n)
      few_counted n r h b e = let f : r ≡ length (line_text l opening vals) = omega (arith, line_most, h, b, e) in (f, omega (arith, line_most, h, f))

pub width_few : (n : ℕ) → width document01 n + 1 ≤ 11
width_few n = omega (arith, width_powers document01 n (omega arith))

-- Whether a line takes no more than n bytes.
module _ (l : Limits) (opening vals : List ℕ) (n : ℕ) where
  pub line_over : n < length opening → leb (length (line_text l opening vals)) n ≡ false
  line_over h = lt-leb (length (line_text l opening vals)) n (omega (arith, length_line l opening vals, h))

  module _ (h : length opening ≤ n) where
    pub line_counted : leb (length (numbers_text l vals)) (n - length opening) ≡ leb (length (line_text l opening vals)) n
    line_counted = by (leb (length (numbers_text l vals)) (n - length opening)) refl
      where
        by : (b : Bool) → leb (length (numbers_text l vals)) (n - length opening) ≡ b → b ≡ leb (length (line_text l opening vals)) n
        by true e = sym (le-leb (length (line_text l opening vals)) n (omega (arith, leb-true, length_line l opening vals)))
        by false e = sym (lt-leb (length (line_text l opening vals)) n (omega (arith, leb-false, length_line l opening vals)))
