-- More laws of lists: some member, every member, what is kept, a part.
use Rattle.std.specs.Prelude.{if◌then◌else◌}
use Rattle.lists.proofs.Prelude.{◌≡◌, refl, sym, ◌∙◌, inl, inr, ⊎_elim, List, [], ◌∷◌, ◌++◌, Bool, true, false, ◌&&◌, ◌||◌, or-false, ℕ, ◌+◌, ◌<◌, ◌≤◌, length, take, drop, set, length-take, length-drop, get_or-set_same, get_or-set_other, get_or-take, get_or-drop, nth, In, keep, any, all, arith, map, drop-cons, drop_of_length-le, add-one, append-nil, append_assoc}
use mathlib.Core.Bool.{or_assoc}
use Rattle.lists.proofs.Counting.{last_or_before}

-- Of some member, with one more at the end.
pub any_last : {A : Type 0} (f : A → Bool) (xs : List A) (x : A) → any f (xs ++ x ∷ []) ≡ (any f xs || f x)
unfolding any
any_last f [] x = or-false (f x)
any_last f (y ∷ xs) x = rw (any_last f xs x) (sym (or_assoc (f y) (any f xs) (f x)))

-- Of some member of what g makes.
pub any_map : {A B : Type 0} (f : B → Bool) (g : A → B) (xs : List A) → any f (map g xs) ≡ any (λ x. f (g x)) xs
unfolding any
any_map f g [] = refl
any_map f g (x ∷ xs) = rw (any_map f g xs)

-- Of some number from i on: of that one, or of one after it.
module _ (f : ℕ → Bool) (xs : List ℕ) (i : ℕ) where
  pub any_here : i < length xs → f (nth xs i) ≡ true → true ≡ any f (drop i xs)
  unfolding any
  any_here h e = rw (drop-cons xs i 0 h, e)

  pub any_next : i < length xs → f (nth xs i) ≡ false → any f (drop (i + 1) xs) ≡ any f (drop i xs)
  unfolding any
  any_next h e = rw (drop-cons xs i 0 h, e, add-one)

  pub any_end : length xs ≤ i → false ≡ any f (drop i xs)
  unfolding any
  any_end h = rw (drop_of_length-le xs h)

-- What is made of each member, joined, with one member more at the end.
pub joined_last : {A B : Type 0} (f : List A → List B) (g : A → List B) → f [] ≡ [] → ((x : A) (xs : List A) → f (x ∷ xs) ≡ g x ++ f xs)
    → (xs : List A) (y : A) → f (xs ++ y ∷ []) ≡ f xs ++ g y
joined_last f g n c [] y = rw (c y [], n) (append-nil (g y))
joined_last f g n c (x ∷ xs) y = rw (c x (xs ++ y ∷ []), c x xs, joined_last f g n c xs y) (sym (append_assoc (g x) (f xs) (g y)))

-- Tests that agree on every member keep the same.
pub keep_same : {A : Type 0} (f g : A → Bool) (xs : List A) → ((x : A) → In x xs → f x ≡ g x) → keep f xs ≡ keep g xs
unfolding keep
keep_same f g [] s = refl
keep_same f g (x ∷ xs) s = rw (s x (inl refl), keep_same f g xs (λ y i. s y (inr i)))

-- One test after another is both at once.
pub keep_keep : {A : Type 0} (f g : A → Bool) (xs : List A) → keep f (keep g xs) ≡ keep (λ x. g x && f x) xs
unfolding keep
keep_keep f g [] = refl
keep_keep f g (x ∷ xs) = by (g x) (f x) refl (keep_keep f g xs)
  where
    by : (a b : Bool) → f x ≡ b → keep f (keep g xs) ≡ keep (λ x. g x && f x) xs
        → keep f (if a then x ∷ keep g xs else keep g xs) ≡ (if a && b then x ∷ keep (λ x. g x && f x) xs else keep (λ x. g x && f x) xs)
    by true true e r = rw (e, r)
    by true false e r = rw (e, r)
    by false b e r = r

pub all_same : {A : Type 0} (f g : A → Bool) (xs : List A) → ((x : A) → In x xs → f x ≡ g x) → all f xs ≡ all g xs
unfolding all
all_same f g [] h = refl
all_same f g (x ∷ xs) h = rw (h x (inl refl), all_same f g xs (λ y i. h y (inr i)))

-- What holds of the first n places, with one place more.
pub each_more : (P : ℕ → ℕ → Type 0) (xs : List ℕ) (n x : ℕ) → n < length xs → ((i : ℕ) → i < n → P i (nth xs i)) → P n x → (i : ℕ) → i < n + 1 → P i (nth (set xs n x) i)
each_more P xs n x h g e i l =
    ⊎_elim (λ (q : i ≡ n). rw (q, get_or-set_same xs n x 0 h) e) (λ b. rw (get_or-set_other xs n i x 0 (λ q. omega arith)) (g i b)) (last_or_before n i (omega arith))

-- The n members from a on.
module _ (xs : List ℕ) (a n : ℕ) where
  pub part_length : a + n ≤ length xs → length (take n (drop a xs)) ≡ n
  part_length h = omega (arith, length-take n (drop a xs), length-drop a xs)

  pub part_nth : (i : ℕ) → i < n → nth (take n (drop a xs)) i ≡ nth xs (a + i)
  part_nth i h = get_or-take n (drop a xs) i 0 h ∙ get_or-drop a xs i 0
