-- Laws of the words about lists, of tests, and of the first number whose cause is true.
use Rattle.std.specs.Prelude.{if◌then◌else◌}
use mathlib.Core.Path.{◌≡◌, refl, ap, ap₂, ◌∙◌, sym}
use mathlib.Core.Logic.{◌⊎◌, inl, inr, ⊎_elim}
use mathlib.Core.List.{List, [], ◌∷◌, ◌++◌, map, reverse_aux, get_last?}
use mathlib.Core.Option.{none, some}
use mathlib.Core.Bool.{Bool, true, false, not, ◌&&◌, ◌||◌, false≢true, true≢false}
use Prim.Native.Nat.{ℕ, zero, suc, ◌+◌, ◌*◌, ◌<◌, ◌≤◌}
use native.Mathlib.Omega.{arith}
use native.Mathlib.Nat.{suc-mul}
use lib.Dec.{eqb, ltb}
use lib.ListN.{length, take}
use borrow.Author.Tests.{eqb-true, eqb-false, eq-eqb, ne_eqb, not-true, ltb-true, ltb-false, lt-ltb, le-ltb}
use Rattle.definitions.specs.Lists.{nth, In, keep, any, all, has, empty, same_numbers, distinct, count_from, below, sum, greatest}
use Rattle.definitions.specs.Text.{first_of}
use Rattle.definitions.specs.Job.{outside}

-- Tests joined ------------------------------------------------------------------------------------------------

pub both : (a b : Bool) → (a && b) ≡ true → (a ≡ true) × (b ≡ true)
both true b h = (refl, h)
both false b h = absurd (false≢true h)

pub both_true : {a b : Bool} → a ≡ true → b ≡ true → (a && b) ≡ true
both_true {a} {b} p q = rw (p, q)

pub neither : (a b : Bool) → (a || b) ≡ false → (a ≡ false) × (b ≡ false)
neither true b h = absurd (true≢false h)
neither false b h = (refl, h)

pub either : (a b : Bool) → (a || b) ≡ true → (a ≡ true) ⊎ (b ≡ true)
either true b h = inl refl
either false b h = inr h

pub either_right : (a : Bool) {b : Bool} → b ≡ true → (a || b) ≡ true
either_right true h = refl
either_right false h = h

pub neither_false : {a b : Bool} → a ≡ false → b ≡ false → (a || b) ≡ false
neither_false {a} {b} p q = rw (p, q)

-- A test that cannot be true is false.
pub refuted : (b : Bool) → (b ≡ true → ⊥) → b ≡ false
refuted true h = absurd (h refl)
refuted false h = refl

-- A number is not outside its range exactly if it is between the two ends.
pub inside : (low high n : ℕ) → outside low high n ≡ false → (low ≤ n) × (n ≤ high)
inside low high n h = let (a, b) = neither (ltb n low) (ltb high n) h in (ltb-false n low a, ltb-false high n b)

pub not_outside : (low high n : ℕ) → low ≤ n → n ≤ high → outside low high n ≡ false
not_outside low high n h g = neither_false (le-ltb n low h) (le-ltb high n g)

-- No number is due: the first cause is false, and none of the others is due.
pub passed : (b : Bool) (n : ℕ) (rows : List (Bool × ℕ)) → first_of ((b, suc n) ∷ rows) ≡ 0 → (b ≡ false) × (first_of rows ≡ 0)
unfolding first_of
passed true n rows h = absurd (omega arith)
passed false n rows h = (refl, h)

-- Members -----------------------------------------------------------------------------------------------------

pub in_append : {A : Type 0} (x : A) (xs ys : List A) → In x (xs ++ ys) → In x xs ⊎ In x ys
in_append x [] ys h = inr h
in_append x (y ∷ xs) ys (inl e) = inl (inl e)
in_append x (y ∷ xs) ys (inr h) = ⊎_elim (λ i. inl (inr i)) inr (in_append x xs ys h)

pub append_left : {A : Type 0} (x : A) (xs ys : List A) → In x xs → In x (xs ++ ys)
append_left {A = A} x [] ys x'' = elim x'' [ ]
append_left x (y ∷ xs) ys (inl e) = inl e
append_left x (y ∷ xs) ys (inr h) = inr (append_left x xs ys h)

pub append_right : {A : Type 0} (x : A) (xs ys : List A) → In x ys → In x (xs ++ ys)
append_right x [] ys h = h
append_right x (y ∷ xs) ys h = inr (append_right x xs ys h)

pub in_map : {A B : Type 0} (f : A → B) (y : B) (xs : List A) → In y (map f xs) → (x : A) × In x xs × (f x ≡ y)
in_map {A = A} {B = B} f y [] x' = elim x' [ ]
in_map f y (x ∷ xs) (inl e) = (x, inl refl, e)
in_map f y (x ∷ xs) (inr h) = let r = in_map f y xs h in (r.0, inr r.1, r.2)

pub map_in : {A B : Type 0} (f : A → B) (x : A) (xs : List A) → In x xs → In (f x) (map f xs)
map_in {A = A} {B = B} f x [] x'' = elim x'' [ ]
map_in f x (y ∷ xs) (inl e) = inl (ap f e)
map_in f x (y ∷ xs) (inr h) = inr (map_in f x xs h)

pub in_reverse : {A : Type 0} (x : A) (xs ys : List A) → In x (reverse_aux xs ys) → In x xs ⊎ In x ys
in_reverse x [] ys i = inr i
in_reverse x (y ∷ xs) ys i = ⊎_elim (λ k. inl (inr k)) (⊎_elim (λ e. inl (inl e)) inr) (in_reverse x xs (y ∷ ys) i)

pub reverse_right : {A : Type 0} (x : A) (xs ys : List A) → In x ys → In x (reverse_aux xs ys)
reverse_right x [] ys i = i
reverse_right x (y ∷ xs) ys i = reverse_right x xs (y ∷ ys) (inr i)

pub reverse_left : {A : Type 0} (x : A) (xs ys : List A) → In x xs → In x (reverse_aux xs ys)
reverse_left {A = A} x [] ys x'' = elim x'' [ ]
reverse_left x (y ∷ xs) ys (inl e) = reverse_right x xs (y ∷ ys) (inl e)
reverse_left x (y ∷ xs) ys (inr i) = reverse_left x xs (y ∷ ys) i

pub in_take : {A : Type 0} (k : ℕ) (x : A) (xs : List A) → In x (take k xs) → In x xs
in_take {A = A} zero x xs x3 = elim x3 [ ]
in_take {A = A} (suc k) x [] x5 = elim x5 [ ]
in_take (suc k) x (y ∷ xs) (inl e) = inl e
in_take (suc k) x (y ∷ xs) (inr i) = inr (in_take k x xs i)

-- A list is not empty exactly if it has a member.
pub some_in : {A : Type 0} (xs : List A) → empty xs ≡ false → (x : A) × In x xs
some_in [] h = absurd (true≢false h)
some_in (x ∷ xs) h = (x, inl refl)

pub in_some : {A : Type 0} (x : A) (xs : List A) → In x xs → empty xs ≡ false
in_some {A = A} x [] i = elim i [ ]
in_some x (y ∷ xs) i = refl

pub last_of : {A : Type 0} (xs : List A) (x : A) → get_last? (xs ++ x ∷ []) ≡ some x
last_of [] x = refl
last_of (y ∷ []) x = refl
last_of (y ∷ z ∷ xs) x = last_of (z ∷ xs) x

pub last_in : {A : Type 0} (xs : List A) (x : A) → get_last? xs ≡ some x → In x xs
last_in [] x h = let z : ◌≡◌ {A = ℕ} 0 1 = cc in absurd (omega arith)
last_in (y ∷ []) x h = inl cc
last_in (y ∷ z ∷ xs) x h = inr (last_in (z ∷ xs) x h)

pub no_last : {A : Type 0} (xs : List A) → get_last? xs ≡ none → (x : A) → In x xs → ⊥
no_last {A = A} [] h x i = elim i [ ]
no_last (y ∷ []) h x i = let z : ◌≡◌ {A = ℕ} 0 1 = cc in omega arith
no_last (y ∷ z ∷ xs) h x i = no_last (z ∷ xs) h z (inl refl)

-- Functions that agree on every member.
pub map_same : {A B : Type 0} (f g : A → B) (xs : List A) → ((x : A) → In x xs → f x ≡ g x) → map f xs ≡ map g xs
map_same f g [] h = refl
map_same f g (x ∷ xs) h = ap₂ ◌∷◌ (h x (inl refl)) (map_same f g xs (λ y i. h y (inr i)))

-- Either every member has the one, or some member has the other.
pub each_or_one : {A : Type 0} (P Q : A → Type 0) (xs : List A) → ((x : A) → In x xs → P x ⊎ Q x) → ((x : A) → In x xs → P x) ⊎ ((x : A) × In x xs × Q x)
each_or_one P Q [] h = inl (λ x i. absurd i)
each_or_one {A = A} P Q (x ∷ xs) h = by (h x (inl refl)) (each_or_one P Q xs (λ y i. h y (inr i)))
  where
    by : P x ⊎ Q x → ((y : A) → In y xs → P y) ⊎ ((y : A) × In y xs × Q y)
        → ((y : A) → (x ≡ y) ⊎ In y xs → P y) ⊎ ((y : A) × ((x ≡ y) ⊎ In y xs) × Q y)
    by (inl p) (inl f) = inl (λ y. ⊎_elim (λ e. rw e at p) (f y))
    by (inl p) (inr r) = inr (r.0, inr r.1, r.2)
    by (inr q) r = inr (x, inl refl, q)

-- Of some member, of every member -----------------------------------------------------------------------------

pub any_in : {A : Type 0} (f : A → Bool) (xs : List A) → any f xs ≡ true → (x : A) × In x xs × (f x ≡ true)
unfolding any
any_in f [] h = absurd (false≢true h)
any_in f (x ∷ xs) h =
    ⊎_elim (λ e. (x, inl refl, e)) (λ g. let r = any_in f xs g in (r.0, inr r.1, r.2)) (either (f x) (any f xs) h)

pub in_any : {A : Type 0} (f : A → Bool) (x : A) (xs : List A) → In x xs → f x ≡ true → any f xs ≡ true
unfolding any
in_any {A = A} f x [] x3 t = elim x3 [ ]
in_any f x (y ∷ xs) (inl e) t = let q : f y ≡ true = rw e t in rw q
in_any f x (y ∷ xs) (inr h) t = either_right (f y) (in_any f x xs h t)

pub none_in : {A : Type 0} (f : A → Bool) (x : A) (xs : List A) → any f xs ≡ false → In x xs → f x ≡ false
unfolding any
none_in {A = A} f x [] h x3 = elim x3 [ ]
none_in f x (y ∷ xs) h (inl e) = let q = (neither (f y) (any f xs) h).0 in rw e at q
none_in f x (y ∷ xs) h (inr i) = none_in f x xs (neither (f y) (any f xs) h).1 i

pub none_any : {A : Type 0} (f : A → Bool) (xs : List A) → ((x : A) → In x xs → f x ≡ false) → any f xs ≡ false
unfolding any
none_any f [] h = refl
none_any f (x ∷ xs) h = neither_false (h x (inl refl)) (none_any f xs (λ y i. h y (inr i)))

pub all_in : {A : Type 0} (f : A → Bool) (x : A) (xs : List A) → all f xs ≡ true → In x xs → f x ≡ true
unfolding all
all_in {A = A} f x [] h x3 = elim x3 [ ]
all_in f x (y ∷ xs) h (inl e) = let q = (both (f y) (all f xs) h).0 in rw e at q
all_in f x (y ∷ xs) h (inr i) = all_in f x xs (both (f y) (all f xs) h).1 i

pub in_all : {A : Type 0} (f : A → Bool) (xs : List A) → ((x : A) → In x xs → f x ≡ true) → all f xs ≡ true
unfolding all
in_all f [] h = refl
in_all f (x ∷ xs) h = both_true (h x (inl refl)) (in_all f xs (λ y i. h y (inr i)))

-- What is kept ------------------------------------------------------------------------------------------------

pub in_keep : {A : Type 0} (f : A → Bool) (x : A) (xs : List A) → In x (keep f xs) → In x xs × (f x ≡ true)
unfolding keep
in_keep {A = A} f x [] h = elim h [ ]
in_keep f x (y ∷ xs) h = by (f y) refl h (in_keep f x xs)
  where
    by : (b : Bool) → f y ≡ b → In x (if b then y ∷ keep f xs else keep f xs) → (In x (keep f xs) → In x xs × (f x ≡ true)) → ((y ≡ x) ⊎ In x xs) × (f x ≡ true)
    by true t (inl e) r = (inl e, rw e at t)
    by true t (inr i) r = let q = r i in (inr q.0, q.1)
    by false t i r = let q = r i in (inr q.0, q.1)

pub keep_in : {A : Type 0} (f : A → Bool) (x : A) (xs : List A) → In x xs → f x ≡ true → In x (keep f xs)
unfolding keep
keep_in {A = A} f x [] x3 t = elim x3 [ ]
keep_in f x (y ∷ xs) (inl e) t = let q : f y ≡ true = rw e t in rw q (inl e)
keep_in f x (y ∷ xs) (inr i) t = by (f y) (keep_in f x xs i t)
  where
    by : (b : Bool) → In x (keep f xs) → In x (if b then y ∷ keep f xs else keep f xs)
    by true i = inr i
    by false i = i

pub keep_length : {A : Type 0} (f : A → Bool) (xs : List A) → length (keep f xs) ≤ length xs
unfolding keep
keep_length f [] = omega arith
keep_length f (x ∷ xs) = by (f x) (keep_length f xs)
  where
    by : (b : Bool) → length (keep f xs) ≤ length xs → length (if b then x ∷ keep f xs else keep f xs) ≤ suc (length xs)
    by true h = omega arith
    by false h = omega arith

pub keep_every : {A : Type 0} (f : A → Bool) (xs : List A) → ((x : A) → In x xs → f x ≡ true) → keep f xs ≡ xs
unfolding keep
keep_every f [] h = refl
keep_every f (x ∷ xs) h = rw (h x (inl refl)) (ap₂ ◌∷◌ refl (keep_every f xs (λ y i. h y (inr i))))

pub keep_none : {A : Type 0} (f : A → Bool) (xs : List A) → ((x : A) → In x xs → f x ≡ false) → keep f xs ≡ []
unfolding keep
keep_none f [] h = refl
keep_none f (x ∷ xs) h = rw (h x (inl refl)) (keep_none f xs (λ y i. h y (inr i)))

pub map_keep : {A B : Type 0} (g : A → B) (f : B → Bool) (xs : List A) → map g (keep (λ x. f (g x)) xs) ≡ keep f (map g xs)
unfolding keep
map_keep g f [] = refl
map_keep g f (x ∷ xs) = by (f (g x)) (map_keep g f xs)
  where
    by : (b : Bool) → map g (keep (λ x. f (g x)) xs) ≡ keep f (map g xs)
        → map g (if b then x ∷ keep (λ x. f (g x)) xs else keep (λ x. f (g x)) xs) ≡ if b then g x ∷ keep f (map g xs) else keep f (map g xs)
    by true e = ap₂ ◌∷◌ refl e
    by false e = e

-- Numbers -----------------------------------------------------------------------------------------------------

pub has_in : (x : ℕ) (ys : List ℕ) → has x ys ≡ true → In x ys
has_in x ys h =
    let r = any_in (λ y. eqb y x) ys h in
    let e : r.0 ≡ x = eqb-true r.0 x r.2 in
    rw e at r.1

pub in_has : (x : ℕ) (ys : List ℕ) → In x ys → has x ys ≡ true
in_has x ys i = in_any (λ y. eqb y x) x ys i (eq-eqb x x refl)

pub not_has : (x : ℕ) (ys : List ℕ) → has x ys ≡ false → In x ys → ⊥
not_has x ys h i = true≢false (sym (in_has x ys i) ∙ h)

pub has_not : (x : ℕ) (ys : List ℕ) → (In x ys → ⊥) → has x ys ≡ false
has_not x ys h = by (has x ys) refl
  where
    by : (b : Bool) → has x ys ≡ b → has x ys ≡ false
    by true e = absurd (h (has_in x ys e))
    by false e = e

-- A number and others are all different exactly if it is none of the others and they are.
pub apart_head : (x : ℕ) (xs : List ℕ) → distinct (x ∷ xs) ≡ true → (In x xs → ⊥) × (distinct xs ≡ true)
unfolding distinct
apart_head x xs d = let (n, d') = both (not (has x xs)) (distinct xs) d in (not_has x xs (not-true (has x xs) n), d')

pub head_apart : (x : ℕ) (xs : List ℕ) → (In x xs → ⊥) → distinct xs ≡ true → distinct (x ∷ xs) ≡ true
unfolding distinct
head_apart x xs n d = rw (has_not x xs n) d

-- a list without one of its members
shrink : (b : ℕ) (ys : List ℕ) → In b ys → (zs : List ℕ) × (length ys ≡ suc (length zs)) × ((x : ℕ) → In x ys → (b ≡ x) ⊎ In x zs)
shrink b [] x' = elim x' [ ]
shrink b (y ∷ ys) (inl e) = (ys, refl, λ x. ⊎_elim (λ f. inl (sym e ∙ f)) inr)
shrink b (y ∷ ys) (inr i) =
    let r = shrink b ys i in
    (y ∷ r.0, ap suc r.1, λ x. ⊎_elim (λ f. inr (inl f)) (λ i. ⊎_elim inl (λ k. inr (inr k)) (r.2 x i)))

-- Different members of ys are no more than ys has places.
pub fits : (xs ys : List ℕ) → distinct xs ≡ true → ((x : ℕ) → In x xs → In x ys) → length xs ≤ length ys
unfolding distinct
fits [] ys d f = omega arith
fits (x ∷ xs) ys d f =
    let (apart, d') = apart_head x xs d in
    let (zs, e, g) = shrink x ys (f x (inl refl)) in
    let h : length xs ≤ length zs = fits xs zs d' (λ y i. ⊎_elim (λ q. absurd (apart (rw q i))) (λ k. k) (g y (f y (inr i)))) in
    omega arith

-- More different numbers than places: one of them has none.
pub spare : (xs ys : List ℕ) → distinct xs ≡ true → length ys < length xs → (x : ℕ) × In x xs × (has x ys ≡ false)
spare xs ys d h = ⊎_elim (λ f. absurd (omega (arith, fits xs ys d f))) (λ r. r) (each_or_one (λ x. In x ys) (λ x. has x ys ≡ false) xs (λ x i. by x (has x ys) refl))
  where
    by : (x : ℕ) (b : Bool) → has x ys ≡ b → In x ys ⊎ (has x ys ≡ false)
    by x true e = inl (has_in x ys e)
    by x false e = inr e

-- Different numbers: those that are kept, images that differ where the numbers do, and all but one of them.
pub distinct_keep : (f : ℕ → Bool) (xs : List ℕ) → distinct xs ≡ true → distinct (keep f xs) ≡ true
unfolding distinct keep
distinct_keep f [] d = refl
distinct_keep f (x ∷ xs) d = let (n, d') = apart_head x xs d in by (f x) n (distinct_keep f xs d')
  where
    by : (b : Bool) → (In x xs → ⊥) → distinct (keep f xs) ≡ true → distinct (if b then x ∷ keep f xs else keep f xs) ≡ true
    by true n d = head_apart x (keep f xs) (λ i. n (in_keep f x xs i).0) d
    by false n d = d

pub distinct_map : (f : ℕ → ℕ) (xs : List ℕ) → ((x y : ℕ) → In x xs → In y xs → f x ≡ f y → x ≡ y) → distinct xs ≡ true
    → distinct (map f xs) ≡ true
unfolding distinct
distinct_map f [] h d = refl
distinct_map f (x ∷ xs) h d =
    let (n, d') = apart_head x xs d in
    head_apart (f x) (map f xs)
    (λ i. let r = in_map f (f x) xs i in let e : r.0 ≡ x = h r.0 x (inr r.1) (inl refl) r.2 in n (rw e at r.1))
    (distinct_map f xs (λ y z i k. h y z (inr i) (inr k)) d')

abbrev pub without : ℕ → List ℕ → List ℕ
without x xs = keep (λ y. not (eqb y x)) xs

pub one_less : (x : ℕ) (xs : List ℕ) → distinct xs ≡ true → In x xs → length xs ≡ suc (length (without x xs))
unfolding keep
one_less x [] d i = elim i [ ]
one_less x (y ∷ xs) d i = let (n, d') = apart_head y xs d in by (eqb y x) refl n i (one_less x xs d')
  where
    by : (b : Bool) → eqb y x ≡ b → (In y xs → ⊥) → (y ≡ x) ⊎ In x xs → (In x xs → length xs ≡ suc (length (without x xs)))
        → suc (length xs) ≡ suc (length (if not b then y ∷ without x xs else without x xs))
    by true e n i r =
        let q = eqb-true y x e in
        let every : without x xs ≡ xs = keep_every (λ z. not (eqb z x)) xs (λ z k. ap not (ne_eqb z x (λ g. n (rw (g ∙ sym q) at k)))) in
        ap (λ zs. suc (length zs)) (sym every)
    by false e n (inl q) r = absurd (eqb-false y x e q)
    by false e n (inr k) r = ap suc (r k)

-- The numbers below n -----------------------------------------------------------------------------------------

pub length_count : (k n : ℕ) → length (count_from k n) ≡ n
unfolding count_from
length_count k zero = refl
length_count k (suc n) = ap suc (length_count (suc k) n)

pub in_count : (k n x : ℕ) → In x (count_from k n) → (k ≤ x) × (x < k + n)
unfolding count_from
in_count k zero x x3 = elim x3 [ ]
in_count k (suc n) x (inl e) = omega arith
in_count k (suc n) x (inr i) = let r = in_count (suc k) n x i in omega arith

pub count_in : (k n x : ℕ) → k ≤ x → x < k + n → In x (count_from k n)
unfolding count_from
count_in k zero x h g = absurd (omega arith)
count_in k (suc n) x h g = by (eqb k x) refl (count_in (suc k) n x)
  where
    by : (b : Bool) → eqb k x ≡ b → (suc k ≤ x → x < suc k + n → In x (count_from (suc k) n)) → (k ≡ x) ⊎ In x (count_from (suc k) n)
    by true e r = inl (eqb-true k x e)
    by false e r = let q = eqb-false k x e in inr (r (omega arith) (omega arith))

pub in_below : (n x : ℕ) → In x (below n) → x < n
in_below n x i = let r = in_count 0 n x i in omega arith

pub below_in : (n x : ℕ) → x < n → In x (below n)
below_in n x h = count_in 0 n x (omega arith) (omega arith)

pub distinct_count : (k n : ℕ) → distinct (count_from k n) ≡ true
unfolding count_from distinct
distinct_count k zero = refl
distinct_count k (suc n) = head_apart k (count_from (suc k) n) (λ i. let r = in_count (suc k) n k i in omega arith) (distinct_count (suc k) n)

-- n different numbers below n are all of them.
pub full : (n : ℕ) (xs : List ℕ) → distinct xs ≡ true → ((x : ℕ) → In x xs → x < n) → length xs ≡ n → (x : ℕ) → x < n → In x xs
unfolding distinct
full n xs d b l x h = by (has x xs) refl
  where
    by : (t : Bool) → has x xs ≡ t → In x xs
    by true e = has_in x xs e
    by false e =
        let w : suc (length xs) ≤ length (below n) =
        fits (x ∷ xs) (below n) (rw e d) (λ y. ⊎_elim (λ q. below_in n y (rw (← q) h)) (λ i. below_in n y (b y i))) in
        absurd (omega (arith, length_count 0 n))

-- Numbers by their place, sums and greatest numbers -----------------------------------------------------------

pub same_numbers_lem : (xs ys : List ℕ) → same_numbers xs ys ≡ true → xs ≡ ys
unfolding same_numbers
same_numbers_lem [] [] h = refl
same_numbers_lem [] (y ∷ ys) h = absurd (false≢true h)
same_numbers_lem (x ∷ xs) [] h = absurd (false≢true h)
same_numbers_lem (x ∷ xs) (y ∷ ys) h =
    let (p, q) = both (eqb x y) (same_numbers xs ys) h in
    ap₂ ◌∷◌ (eqb-true x y p) (same_numbers_lem xs ys q)

pub nth_in : (xs : List ℕ) (i : ℕ) → i < length xs → In (nth xs i) xs
nth_in [] i h = absurd (omega arith)
nth_in (x ∷ xs) zero h = inl refl
nth_in (x ∷ xs) (suc i) h = inr (nth_in xs i (omega arith))

-- Number i of the values of f at the n numbers from k on; at the numbers below n.
nth_count : (f : ℕ → ℕ) (k n i : ℕ) → i < n → nth (map f (count_from k n)) i ≡ f (k + i)
unfolding count_from
nth_count f k zero i h = absurd (omega arith)
nth_count f k (suc n) zero h = let e : k ≡ k + 0 = omega arith in ap f e
nth_count f k (suc n) (suc i) h = let e : suc k + i ≡ k + suc i = omega arith in nth_count f (suc k) n i (omega arith) ∙ ap f e

pub nth_below : (f : ℕ → ℕ) (n i : ℕ) → i < n → nth (map f (below n)) i ≡ f i
nth_below f n i h = let e : 0 + i ≡ i = omega arith in nth_count f 0 n i h ∙ ap f e

-- No member passes b.
abbrev pub NumbersMost : ℕ → List ℕ → Type 0
NumbersMost b xs = (x : ℕ) → In x xs → x ≤ b

pub nth_most : {b : ℕ} (xs : List ℕ) (i : ℕ) → NumbersMost b xs → nth xs i ≤ b
nth_most [] i h = omega arith
nth_most (x ∷ xs) zero h = h x (inl refl)
nth_most (x ∷ xs) (suc i) h = nth_most xs i (λ y k. h y (inr k))

pub sum_most : {A : Type 0} {b : ℕ} (f : A → ℕ) (xs : List A) → ((x : A) → In x xs → f x ≤ b) → sum (map f xs) ≤ length xs * b
unfolding sum
sum_most f [] h = omega arith
sum_most {b} f (x ∷ xs) h =
    let r : sum (map f xs) ≤ length xs * b = sum_most f xs (λ y i. h y (inr i)) in
    let g = h x (inl refl) in
    rw (suc-mul (length xs) b) (omega arith)

pub greatest_most : {A : Type 0} {b : ℕ} (f : A → ℕ) (xs : List A) → ((x : A) → In x xs → f x ≤ b) → greatest (map f xs) ≤ b
unfolding greatest
greatest_most f [] h = omega arith
greatest_most f (x ∷ xs) h =
    let r = greatest_most f xs (λ y i. h y (inr i)) in
    let g = h x (inl refl) in
    omega arith

-- Pairs of numbers --------------------------------------------------------------------------------------------

-- One pair is less than another: by the first number, then by the second.
abbrev pub less : (a b c d : ℕ) → Bool
less a b c d = ltb a c || (eqb a c && ltb b d)

abbrev Less : (a b c d : ℕ) → Type 0
Less a b c d = (a < c) ⊎ ((a ≡ c) × (b < d))

less_in : (a b c d : ℕ) → less a b c d ≡ true → Less a b c d
less_in a b c d h =
    ⊎_elim (λ p. inl (ltb-true a c p)) (λ p. let (q, r) = both (eqb a c) (ltb b d) p in inr (eqb-true a c q, ltb-true b d r)) (either (ltb a c) (eqb a c && ltb b d) h)

in_less : (a b c d : ℕ) → Less a b c d → less a b c d ≡ true
in_less a b c d (inl h) = rw (lt-ltb a c h)
in_less a b c d (inr (e, h)) = either_right (ltb a c) (both_true (eq-eqb a c e) (lt-ltb b d h))

pub less_trans : (a b c d e f : ℕ) → less a b c d ≡ true → less c d e f ≡ true → less a b e f ≡ true
less_trans a b c d e f h g = in_less a b e f (by (less_in a b c d h) (less_in c d e f g))
  where
    by : Less a b c d → Less c d e f → Less a b e f
    by (inl p) (inl q) = inl (omega arith)
    by (inl p) (inr q) = inl (omega arith)
    by (inr p) (inl q) = inl (omega arith)
    by (inr p) (inr q) = inr (omega arith)

-- Of two pairs not both are less; and one is, if they differ.
pub less_once : (a b c d : ℕ) → less a b c d ≡ true → less c d a b ≡ true → ⊥
less_once a b c d h g = by (less_in a b c d h) (less_in c d a b g)
  where
    by : Less a b c d → Less c d a b → ⊥
    by (inl p) (inl q) = omega arith
    by (inl p) (inr q) = omega arith
    by (inr p) (inl q) = omega arith
    by (inr p) (inr q) = omega arith

pub one_less_pair : (a b c d : ℕ) → (a ≡ c → b ≡ d → ⊥) → (less a b c d ≡ true) ⊎ (less c d a b ≡ true)
one_less_pair a b c d n = by (ltb a c) refl (ltb c a) refl (ltb b d) refl
  where
    by : (x : Bool) → ltb a c ≡ x → (y : Bool) → ltb c a ≡ y → (z : Bool) → ltb b d ≡ z → (less a b c d ≡ true) ⊎ (less c d a b ≡ true)
    by true p y q z r = inl (in_less a b c d (inl (ltb-true a c p)))
    by false p true q z r = inr (in_less c d a b (inl (ltb-true c a q)))
    by false p false q true r = inl (in_less a b c d (inr (omega (arith, ltb-false a c p, ltb-false c a q), ltb-true b d r)))
    by false p false q false r =
        let e : a ≡ c = omega (arith, ltb-false a c p, ltb-false c a q) in
        let m = n e in
        inr (in_less c d a b (inr (sym e, omega (arith, ltb-false b d r, m))))
