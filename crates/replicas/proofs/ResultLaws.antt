-- The R lines and the L line.
use Rattle.lists.proofs.Prelude.{◌≡◌, sym, ◌∙◌, List, [], ◌∷◌, ◌++◌, ℕ, ◌+◌, ◌≤◌, arith, length, length-append, ne_eqb, bytes, Limits, width, decimal, line_text, never, result_line, end_line}
use Rattle.definitions.proofs.Decimal.{length_decimal}
use Rattle.lists.specs.Over.{over}
use Rattle.text.specs.Meaning.{written, place_after}
use Rattle.text.proofs.Writing.{written_fits, place_fits, written_more, place_more}
use Rattle.ticks.specs.Cells.{never_cell, time_in}

module _ (l : Limits) where
  module _ (t x p : ℕ) where
    -- A task that is done.
    pub result_tick : (x ≡ never_cell → ⊥) → result_line l t (time_in x) p ≡ line_text l (bytes "R,") (t ∷ p ∷ x ∷ [])
    result_tick n = rw (ne_eqb x never_cell n)

  module _ (x : ℕ) where
    pub end_tick : (x ≡ never_cell → ⊥) → end_line l (time_in x) ≡ line_text l (bytes "L,") (x ∷ [])
    end_tick n = rw (ne_eqb x never_cell n)

  -- The line of a task that is not done, in three parts.
  module _ (t : ℕ) where
    pub undone_length : length (result_line l t never 0) ≡ 7 + width l t
    undone_length = simp length-append (omega (arith, length_decimal l t))

    pub undone_whole : (d x₁ x₂ x₃ : List ℕ) (a b : ℕ) → 7 + width l t ≤ length d
        → x₁ ≡ written d 0 (bytes "R,") → a ≡ place_after d 0 (bytes "R,")
        → x₂ ≡ written x₁ a (decimal l t) → b ≡ place_after x₁ a (decimal l t)
        → x₃ ≡ written x₂ b (bytes ",-,-\n") → x₃ ≡ written d 0 (result_line l t never 0)
    undone_whole d x₁ x₂ x₃ a b h f₁ g₁ f₂ g₂ f₃ =
        let s : List ℕ = bytes "R," in
        let u : List ℕ = s ++ decimal l t in
        let n : length u ≡ 2 + width l t = simp length-append (omega (arith, length_decimal l t)) in
        let k : length (u ++ bytes ",-,-\n") ≡ 7 + width l t = simp length-append (omega (arith, length_decimal l t)) in
        let e₁ : x₁ ≡ over d 0 s = f₁ ∙ written_fits d 0 s (omega arith) in
        let p₁ : a ≡ 0 + length s = g₁ ∙ place_fits d 0 s (omega arith) in
        let e₂ : x₂ ≡ over d 0 u = f₂ ∙ written_more d x₁ 0 a s (decimal l t) e₁ p₁ (omega arith) in
        let p₂ : b ≡ 0 + length u = g₂ ∙ place_more d x₁ 0 a s (decimal l t) e₁ p₁ (omega arith) in
        f₃ ∙ written_more d x₂ 0 b u (bytes ",-,-\n") e₂ p₂ (omega arith) ∙ sym (written_fits d 0 (result_line l t never 0) (omega (arith, undone_length, h)))
