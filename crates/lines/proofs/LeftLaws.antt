-- What is left of a text after something was read is a part at its end.
use Rattle.lists.proofs.Prelude.{◌≡◌, refl, ap, sym, ◌∙◌, List, [], ◌∷◌, Bool, true, false, ℕ, zero, suc, ◌+◌, ◌-◌, ◌*◌, drop, eqb, is_digit}
use Rattle.lists.proofs.Prelude.{subst, Limits, Reading, Reader, found, refused, next, digits, number, exactly, numbers, mark, ◌++◌, due, line, lines}
use Rattle.std.specs.Prelude.{if◌then◌else◌}
use Rattle.std.proofs.lemmas.List.{drop-drop}

-- t is what is left of s after some bytes.
abbrev pub PartOf : List ℕ → List ℕ → Type 0
PartOf s t = (n : ℕ) × (t ≡ drop n s)

-- What a reading leaves is a part of s.
abbrev pub Leaves : {A : Type 0} → List ℕ → Reading A → Type 0
Leaves s (found a t) = PartOf s t
Leaves s (refused x) = Unit {0}

module _ {A : Type 0} (s : List ℕ) where
  pub leaves_all : (a : A) → Leaves s (found a s)
  leaves_all a = (0, refl)

  leaves_if : (c : Bool) (x y : Reading A) → Leaves s x → Leaves s y → Leaves s (if c then x else y)
  leaves_if true x y f g = f
  leaves_if false x y f g = g

  -- Of a part it is a part of the whole.
  leaves_more : (t : List ℕ) → PartOf s t → (r : Reading A) → Leaves t r → Leaves s r
  leaves_more t (n, e) (found a u) (m, f) = (n + m, f ∙ ap (drop m) e ∙ drop-drop m n s)
  leaves_more t p (refused x) w = tt

  pub leaves_next : {B : Type 0} (r : Reading B) (f : B → Reader A) → Leaves s r → ((b : B) (t : List ℕ) → Leaves t (f b t)) → Leaves s (next r f)
  leaves_next (found b t) f p g = leaves_more t p (f b t) (g b t)
  leaves_next (refused x) f p g = tt

  leaves_after : (b : ℕ) (r : Reading A) → Leaves s r → Leaves (b ∷ s) r
  leaves_after b (found a t) (n, e) = (suc n, e)
  leaves_after b (refused x) w = tt

exactly_leaves : (opening s : List ℕ) → Leaves s (exactly opening s)
unfolding exactly
exactly_leaves [] s = leaves_all {A = Unit {0}} s tt
exactly_leaves (o ∷ os) [] = tt
exactly_leaves (o ∷ os) (b ∷ s) = leaves_if (b ∷ s) (eqb b o) _ (refused 2) (leaves_after s b (exactly os s) (exactly_leaves os s)) tt

digits_leaves : (k n : ℕ) (s : List ℕ) → Leaves s (digits k n s)
unfolding digits
digits_leaves k n [] = leaves_all [] n
digits_leaves k n (b ∷ s) =
    let more = digits_leaves (k - 1) (n * 10 + (b - 48)) s in
    leaves_if (b ∷ s) (is_digit b) _ _ (leaves_if (b ∷ s) (eqb k 0) _ _ tt (leaves_after s b _ more)) (leaves_all (b ∷ s) n)

module _ (l : Limits) where
  number_leaves : (s : List ℕ) → Leaves s (number l s)
  unfolding number
  number_leaves [] = tt
  number_leaves (b ∷ s) = leaves_if (b ∷ s) (is_digit b) _ _ (leaves_after s b _ (digits_leaves _ _ s)) tt

  numbers_leaves : (k : ℕ) (s : List ℕ) → Leaves s (numbers l k s)
  unfolding numbers
  numbers_leaves zero s = leaves_all {A = List ℕ} s []
  numbers_leaves (suc k) s =
      leaves_next s (number l s) _ (number_leaves s) λ v t.
      leaves_next t (exactly (mark k ∷ []) t) _ (exactly_leaves (mark k ∷ []) t) λ _ u.
      leaves_next u (numbers l k u) _ (numbers_leaves k u) λ vs w. leaves_all {A = List ℕ} w (v ∷ vs)

  -- The opening of a line was read, which left t, and then its numbers, which left u.
  pub line_part : (opening : List ℕ) (k : ℕ) (s t u vs : List ℕ) → found tt t ≡ exactly opening s → found vs u ≡ numbers l k t → PartOf s u
  line_part opening k s t u vs e f =
      leaves_more s t (subst (Leaves s) (sym e) (exactly_leaves opening s)) (found vs u) (subst (Leaves t) (sym f) (numbers_leaves k t))

  pub line_leaves : (opening : List ℕ) (k : ℕ) (s : List ℕ) → Leaves s (line l opening k s)
  unfolding line
  line_leaves opening k s = leaves_next s (exactly opening s) _ (exactly_leaves opening s) λ _ t. numbers_leaves k t

due_leaves : (x : ℕ) (s : List ℕ) → Leaves s (due x s)
due_leaves zero s = leaves_all {A = Unit {0}} s tt
due_leaves (suc x) s = tt

-- Lines of a kind each of which leaves a part.
module _ {A : Type 0} (form : Reader A) (rule : List A → A → ℕ) (f : (s : List ℕ) → Leaves s (form s)) where
  lines_leave : (n : ℕ) (seen : List A) (s : List ℕ) → Leaves s (lines form rule n seen s)
  unfolding lines
  lines_leave zero seen s = leaves_all s seen
  lines_leave (suc n) seen s =
      leaves_next s (form s) _ (f s) λ a t.
      leaves_next t (due (rule seen a) t) _ (due_leaves (rule seen a) t) λ _ u. lines_leave n (seen ++ a ∷ []) u

  -- They were read, which left t.
  pub lines_part : (n : ℕ) (seen all : List A) (s t : List ℕ) → found all t ≡ lines form rule n seen s → PartOf s t
  lines_part n seen all s t e = subst (Leaves s) (sym e) (lines_leave n seen s)
