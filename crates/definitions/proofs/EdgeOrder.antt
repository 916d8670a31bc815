-- The order of edge lines: what 6 and 16 say where the lines so far ascend, and that lines which pass ascend.
use mathlib.Core.Path.{◌≡◌, refl, sym, ap₂, ◌∙◌}
use mathlib.Core.Logic.{◌⊎◌, inl, inr, ⊎_elim}
use mathlib.Core.List.{List, [], ◌∷◌, ◌++◌, get_last?}
use mathlib.Core.Option.{Option, none, some}
use mathlib.Core.Bool.{Bool, true, false, false≢true}
use lib.Dec.{eqb}
use borrow.Author.Tests.{eqb-true, eq-eqb, ne_eqb}
use Rattle.definitions.specs.Lists.{In, any}
use Rattle.definitions.specs.Text.{first_of}
use Rattle.definitions.specs.Job.{Edge, same_pair, smaller, smaller_than_last, edge_order, Ascends}
use Rattle.definitions.proofs.Lists.{less_trans, less_once, one_less_pair, both, both_true, neither, either_right, refuted, passed, in_append, none_in, in_any, none_any, last_in, no_last}

-- One pair smaller than another -------------------------------------------------------------------------------------

smaller_trans : (d e f : Edge) → smaller d e ≡ true → smaller e f ≡ true → smaller d f ≡ true
smaller_trans d e f = less_trans d.from d.to e.from e.to f.from f.to

-- Of two pairs not both are smaller; so none is smaller than itself.
not_both : (d e : Edge) → smaller d e ≡ true → smaller e d ≡ true → ⊥
not_both d e = less_once d.from d.to e.from e.to

-- A smaller pair is not smaller the other way round, and is another pair.
smaller_not : (d e : Edge) → smaller d e ≡ true → smaller e d ≡ false
smaller_not d e h = refuted (smaller e d) (not_both d e h)

smaller_other : (d e : Edge) → smaller d e ≡ true → same_pair d e ≡ false
smaller_other d e h =
    refuted (same_pair d e) λ q.
    let (f, t) = both (eqb d.from e.from) (eqb d.to e.to) q in
    let r : smaller e e ≡ true = rw (eqb-true d.from e.from f, eqb-true d.to e.to t) at h in
    not_both e e r r

-- Of two different pairs one is smaller.
one_smaller : (d e : Edge) → same_pair d e ≡ false → (smaller d e ≡ true) ⊎ (smaller e d ≡ true)
one_smaller d e s = one_less_pair d.from d.to e.from e.to (λ f t. false≢true (sym s ∙ both_true (eq-eqb _ _ f) (eq-eqb _ _ t)))

-- So where one is not, the other is.
then_smaller : (d e : Edge) → same_pair d e ≡ false → smaller e d ≡ false → smaller d e ≡ true
then_smaller d e s h = ⊎_elim (λ q. q) (λ q. absurd (false≢true (sym h ∙ q))) (one_smaller d e s)

pub else_smaller : (d e : Edge) → same_pair d e ≡ false → smaller d e ≡ false → smaller e d ≡ true
else_smaller d e s h = ⊎_elim (λ q. absurd (false≢true (sym h ∙ q))) (λ q. q) (one_smaller d e s)

-- Lines that ascend -------------------------------------------------------------------------------------------------

-- Each is the last, or smaller.
up_to_last : (es : List Edge) (d : Edge) → Ascends es → get_last? es ≡ some d → (x : Edge) → In x es → (x ≡ d) ⊎ (smaller x d ≡ true)
up_to_last [] d a l x x5 = elim x5 [ ]
up_to_last (y ∷ []) d a l x (inr i) = elim i [ ]
up_to_last (y ∷ []) d a l x (inl e) = let q : y ≡ d = cc in inl (sym e ∙ q)
up_to_last (y ∷ z ∷ es) d a l x (inl e) = inr (rw (← e) (a.0 d (last_in (z ∷ es) d l)))
up_to_last (y ∷ z ∷ es) d a l x (inr i) = up_to_last (z ∷ es) d a.1 l x i

-- A pair that is not smaller than the last is another than those before the last.
module _ (seen : List Edge) (d e : Edge) (a : Ascends seen) (l : get_last? seen ≡ some d) where
  below_last : smaller d e ≡ true → (x : Edge) → In x seen → smaller x e ≡ true
  below_last h x i = ⊎_elim (λ q. rw q h) (λ q. smaller_trans x d e q h) (up_to_last seen d a l x i)

  -- Where the lines so far ascend, and this one is not smaller than the one before, only that one can have its pair.
  pub repeat_is_last : smaller e d ≡ false → any (λ x. same_pair x e) seen ≡ same_pair d e
  repeat_is_last h = by (same_pair d e) refl
    where
      by : (b : Bool) → same_pair d e ≡ b → any (λ x. same_pair x e) seen ≡ b
      by true q = in_any (λ x. same_pair x e) d seen (last_in seen d l) q
      by false q = none_any (λ x. same_pair x e) seen (λ x i. smaller_other x e (below_last (then_smaller d e q h) x i))

-- What an edge line gets ---------------------------------------------------------------------------------------------

module _ (seen : List Edge) (e : Edge) where
  pub order_self : e.from ≡ e.to → first_of (edge_order seen e) ≡ 6
  unfolding edge_order first_of
  order_self q = rw (eq-eqb _ _ q)

  -- "A repeated pair keeps number 6."
  pub order_repeated : any (λ d. same_pair d e) seen ≡ true → first_of (edge_order seen e) ≡ 6
  unfolding edge_order first_of
  order_repeated q = rw (either_right (eqb e.from e.to) q)

  module _ (n : e.from ≡ e.to → ⊥) where
    -- "A pair that is less than the previous line's is the new fault."
    pub order_smaller : any (λ d. same_pair d e) seen ≡ false → smaller_than_last (get_last? seen) e ≡ true → first_of (edge_order seen e) ≡ 16
    unfolding edge_order first_of
    order_smaller q h = rw (ne_eqb _ _ n, q, h)

    -- The first line; and one after lines that ascend, which needs to be held against the line before alone.
    pub order_first : get_last? seen ≡ none → first_of (edge_order seen e) ≡ 0
    unfolding edge_order first_of
    order_first l = rw (ne_eqb _ _ n, none_any (λ d. same_pair d e) seen (λ x i. absurd (no_last seen l x i)), l)

    pub order_next : (d : Edge) → Ascends seen → get_last? seen ≡ some d → smaller d e ≡ true → first_of (edge_order seen e) ≡ 0
    unfolding edge_order first_of
    order_next d a l f = let h = smaller_not d e f in rw (ne_eqb _ _ n, repeat_is_last seen d e a l h, smaller_other d e f, l, h)

-- A line that passes goes on ascending.
ascends_append : (seen : List Edge) (e : Edge) → Ascends seen → ((x : Edge) → In x seen → smaller x e ≡ true) → Ascends (seen ++ e ∷ [])
ascends_append [] e a h = (λ x i. absurd i, tt)
ascends_append (y ∷ seen) e a h = (
  λ x i. ⊎_elim (a.0 x) (⊎_elim (λ q. rw (← q) (h y (inl refl))) absurd) (in_append x seen (e ∷ []) i),
  ascends_append seen e a.1 (λ x i. h x (inr i)),
)

pub ascends_more : (seen : List Edge) (e : Edge) → Ascends seen → first_of (edge_order seen e) ≡ 0 → Ascends (seen ++ e ∷ [])
unfolding edge_order
ascends_more seen e a z =
    let (p, z1) = passed _ _ _ z in
    let (s, _) = passed _ _ _ z1 in
    ascends_append seen e a (λ x i. by (get_last? seen) refl s (neither (eqb e.from e.to) _ p).1 x i)
  where
    by : (o : Option Edge) → get_last? seen ≡ o → smaller_than_last o e ≡ false → any (λ d. same_pair d e) seen ≡ false → (x : Edge) → In x seen → smaller x e ≡ true
    by none l s q x i = absurd (no_last seen l x i)
    by (some d) l s q x i = below_last seen d e a l (then_smaller d e (none_in (λ d. same_pair d e) d seen q (last_in seen d l)) s) x i

-- One order ----------------------------------------------------------------------------------------------------------

-- An edge after x in one list, and in y and the edges after it in another, is after y, if that is x.
after_same : (x y : Edge) (xs ys : List Edge) → ((e : Edge) → In e xs → smaller x e ≡ true) → y ≡ x → (e : Edge) → In e xs → (y ≡ e) ⊎ In e ys → In e ys
after_same x y xs ys a q e i (inr k) = k
after_same x y xs ys a q e i (inl p) = let r : smaller e e ≡ true = rw (sym q ∙ p) at (a e i) in absurd (not_both e e r r)

-- Edges that ascend are in one order only.
pub same_order : (xs ys : List Edge) → Ascends xs → Ascends ys → ((e : Edge) → In e xs → In e ys) → ((e : Edge) → In e ys → In e xs) → xs ≡ ys
same_order [] [] a b f g = refl
same_order [] (y ∷ ys) a b f g = absurd (g y (inl refl))
same_order (x ∷ xs) [] a b f g = absurd (f x (inl refl))
same_order (x ∷ xs) (y ∷ ys) a b f g =
    let q : y ≡ x = first (f x (inl refl)) (g y (inl refl)) in
    ap₂ ◌∷◌ (sym q) (same_order xs ys a.1 b.1
    (λ e i. after_same x y xs ys a.0 q e i (f e (inr i)))
    (λ e i. after_same y x ys xs b.0 (sym q) e i (g e (inr i))))
  where
    first : (y ≡ x) ⊎ In x ys → (x ≡ y) ⊎ In y xs → y ≡ x
    first (inl q) j = q
    first (inr i) (inl q) = sym q
    first (inr i) (inr j) = absurd (not_both x y (a.0 y j) (b.0 x i))
