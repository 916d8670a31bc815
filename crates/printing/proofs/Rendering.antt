-- A text that is rendered line by line.
use Rattle.lists.proofs.Prelude.{◌≡◌, refl, ap, sym, ◌∙◌, List, [], ◌∷◌, ◌++◌, Bool, true, false, ℕ, ◌+◌, ◌-◌, ◌<◌, ◌≤◌, min, arith, leb-true, leb-false, leb, length, length-append}
use borrow.Rule.Slice.PartMut.{put_mid, mid_of, mid_len, put_same}
use Rattle.lists.specs.Over.{over}
use Rattle.lists.proofs.Over.{over_nil, over_over, length_over, lent}
use Rattle.text.specs.Meaning.{written}
use Rattle.text.proofs.Writing.{written_fits, written_unfit}
use Rattle.printing.specs.Rendered.{Rendered}

pub rendered_none : (d : List ℕ) → Rendered [] d d 0
rendered_none d = record { size = refl; same = refl; holds = λ h. sym (over_nil d 0) }

-- A text that is to be written fits, or not.
fits_or_not : (d : List ℕ) (at : ℕ) (t : List ℕ) (P : List ℕ → Type 0) → (at + length t ≤ length d → P (over d at t)) → (length d < at + length t → P d) → P (written d at t)
fits_or_not d at t P f g = by (leb (at + length t) (length d)) refl
  where
    by : (b : Bool) → leb (at + length t) (length d) ≡ b → P (written d at t)
    by true e = let h = leb-true (at + length t) (length d) e in rw (written_fits d at t h) (f h)
    by false e = let h = leb-false (at + length t) (length d) e in rw (written_unfit d at t h) (g h)

pub length_written : (d : List ℕ) (at : ℕ) (t : List ℕ) → length (written d at t) ≡ length d
length_written d at t = fits_or_not d at t (λ e. length e ≡ length d) (length_over d at t) (λ h. refl)

-- The part of the output from `at` on was lent, or its end; what was written there is written from `at` on.
both_none : (xs ys : List ℕ) → length xs ≡ 0 → length ys ≡ 0 → xs ≡ ys
both_none [] [] e f = refl
both_none [] (y ∷ ys) e f = absurd (omega arith)
both_none (x ∷ xs) ys e f = absurd (omega arith)

pub lent_written : (d : List ℕ) (at p : ℕ) (t ys : List ℕ) → p ≡ min at (length d) → ys ≡ written (mid_of p (length d - p) d) 0 t
    → put_mid p (length d - p) d ys ≡ written d at t
lent_written d at p t ys e f = rw (f, e) (by (leb at (length d)) refl)
  where
    part : ℕ → List ℕ
    part q = mid_of q (length d - q) d

    within : at ≤ length d → put_mid at (length d - at) d (written (part at) 0 t) ≡ written d at t
    within h =
        let n = mid_len at (length d) d (omega arith) in
        fits_or_not (part at) 0 t (λ ys. put_mid at (length d - at) d ys ≡ written d at t)
        (λ g. lent d at t (over (part at) 0 t) h refl ∙ sym (written_fits d at t (omega (arith, n, g, h))))
        (λ g. put_same at (length d - at) d ∙ sym (written_unfit d at t (omega (arith, n, g, h))))

    behind : length d < at → put_mid (length d) (length d - length d) d (written (part (length d)) 0 t) ≡ written d at t
    behind h =
        let n = mid_len (length d) (length d) d (omega arith) in
        let none = both_none (written (part (length d)) 0 t) (part (length d)) (length_written (part (length d)) 0 t ∙ omega (arith, n)) (omega (arith, n)) in
        rw none (put_same (length d) (length d - length d) d) ∙ sym (written_unfit d at t (omega (arith, h)))

    by : (b : Bool) → leb at (length d) ≡ b
        → put_mid (min at (length d)) (length d - min at (length d)) d (written (part (min at (length d))) 0 t) ≡ written d at t
    by true g = let h = leb-true at (length d) g in let q : min at (length d) ≡ at = omega (arith, h) in rw q (within h)
    by false g = let h = leb-false at (length d) g in let q : min at (length d) ≡ length d = omega (arith, h) in rw q (behind h)

-- One text more.
pub rendered_more : {s d x : List ℕ} {at : ℕ} → Rendered s d x at → (t y : List ℕ) (n : ℕ) → n ≡ at + length t → y ≡ written x at t → Rendered (s ++ t) d y n
rendered_more {s} {d} {x} {at} r t y n e f =
    record {
      size = omega (arith, e, r.size, length-append s t);
      same = ap length f ∙ length_written x at t ∙ r.same;
      holds =
          λ h.
          let k : length s + length t ≤ length d = omega (arith, h, length-append s t) in
          f ∙ written_fits x at t (omega (arith, k, r.size, r.same))
          ∙ ap (λ (l : List ℕ). over l at t) (r.holds (omega (arith, k))) ∙ over_over d 0 s t at (omega (arith, r.size)) (omega (arith, k));
    }
