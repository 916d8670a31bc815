-- Lists over the numbers below n, with one number more: what a loop that goes upwards has passed.
use Rattle.std.specs.Prelude.{if◌then◌else◌}
use Rattle.lists.proofs.Prelude.{◌≡◌, refl, ap, ◌∙◌, ◌⊎◌, ⊎_elim, List, [], ◌∷◌, ◌++◌, map, map-append, append-nil, Bool, true, false, ℕ, zero, suc, ◌+◌, ◌<◌, ◌≤◌, max, arith, add-one, length, set, length-append, get_or-set_same, get_or-set_other, nth, count_from, below, keep, sum, greatest}
use Rattle.lists.proofs.Counting.{last_or_before}

pub count_last : (k n : ℕ) → count_from k (suc n) ≡ count_from k n ++ (k + n) ∷ []
unfolding count_from
count_last k zero = let e : k ≡ k + 0 = omega arith in ap (λ (x : ℕ). x ∷ []) e
count_last k (suc n) = let e : suc k + n ≡ k + suc n = omega arith in ap (k ∷◌) (count_last (suc k) n ∙ ap (λ (x : ℕ). count_from (suc k) n ++ x ∷ []) e)

pub below_more : (n : ℕ) → below (n + 1) ≡ below n ++ n ∷ []
below_more n = let e : 0 + n ≡ n = omega arith in rw (add-one n) (count_last 0 n ∙ ap (λ (x : ℕ). below n ++ x ∷ []) e)

pub map_more : {A : Type 0} (f : ℕ → A) (n : ℕ) → map f (below (n + 1)) ≡ map f (below n) ++ f n ∷ []
map_more f n = rw (below_more n) (map-append f (below n) (n ∷ []))

-- One member more at the end -----------------------------------------------------------------------------------

pub keep_last : {A : Type 0} (f : A → Bool) (xs : List A) (y : A) → keep f (xs ++ y ∷ []) ≡ keep f xs ++ (if f y then y ∷ [] else [])
unfolding keep
keep_last f [] y = refl
keep_last f (x ∷ xs) y = by (f x) (keep_last f xs y)
  where
    by : (b : Bool) → keep f (xs ++ y ∷ []) ≡ keep f xs ++ (if f y then y ∷ [] else [])
        → (if b then x ∷ keep f (xs ++ y ∷ []) else keep f (xs ++ y ∷ [])) ≡ (if b then x ∷ keep f xs else keep f xs) ++ (if f y then y ∷ [] else [])
    by true e = ap (x ∷◌) e
    by false e = e

pub keep_yes : {A : Type 0} (f : A → Bool) (xs : List A) (y : A) → f y ≡ true → keep f (xs ++ y ∷ []) ≡ keep f xs ++ y ∷ []
keep_yes f xs y e = keep_last f xs y ∙ rw e

pub keep_no : {A : Type 0} (f : A → Bool) (xs : List A) (y : A) → f y ≡ false → keep f (xs ++ y ∷ []) ≡ keep f xs
keep_no f xs y e = keep_last f xs y ∙ rw e (append-nil (keep f xs))

pub sum_last : (xs : List ℕ) (y : ℕ) → sum (xs ++ y ∷ []) ≡ sum xs + y
unfolding sum
sum_last [] y = omega arith
sum_last (x ∷ xs) y = omega (arith, sum_last xs y)

pub greatest_last : (xs : List ℕ) (y : ℕ) → greatest (xs ++ y ∷ []) ≡ max (greatest xs) y
unfolding greatest
greatest_last [] y = omega arith
greatest_last (x ∷ xs) y = omega (arith, greatest_last xs y)

-- One number more below n -----------------------------------------------------------------------------------------

-- How many of the numbers below n are kept.
module _ (f : ℕ → Bool) (n : ℕ) where
  pub count_yes : f n ≡ true → length (keep f (below (n + 1))) ≡ length (keep f (below n)) + 1
  count_yes e = rw (below_more n, keep_yes f (below n) n e) (length-append (keep f (below n)) (n ∷ []))

  pub count_no : f n ≡ false → length (keep f (below (n + 1))) ≡ length (keep f (below n))
  count_no e = rw (below_more n, keep_no f (below n) n e)

module _ (f : ℕ → ℕ) (n : ℕ) where
  pub sum_more : sum (map f (below (n + 1))) ≡ sum (map f (below n)) + f n
  sum_more = rw (map_more f n) (sum_last (map f (below n)) (f n))

  pub greatest_more : greatest (map f (below (n + 1))) ≡ max (greatest (map f (below n))) (f n)
  greatest_more = rw (map_more f n) (greatest_last (map f (below n)) (f n))

-- A table whose first n places hold what f says, with one place more.
pub table_more : (f : ℕ → ℕ) (mem : List ℕ) (at n x : ℕ) → ((i : ℕ) → i < n → nth mem (at + i) ≡ f i) → at + n < length mem → x ≡ f n
    → (i : ℕ) → i < n + 1 → nth (set mem (at + n) x) (at + i) ≡ f i
table_more f mem at n x h g e i l =
    ⊎_elim
    (λ (q : i ≡ n). rw q (get_or-set_same mem (at + n) x 0 g ∙ e))
    (λ b. get_or-set_other mem (at + n) (at + i) x 0 (λ s. omega arith) ∙ h i b)
    (last_or_before n i (omega arith))

-- A table is as it was after a store outside it.
pub table_other : (f : ℕ → ℕ) (mem : List ℕ) (at n k x : ℕ) → ((i : ℕ) → i < n → nth mem (at + i) ≡ f i) → (k < at) ⊎ (at + n ≤ k)
    → (i : ℕ) → i < n → nth (set mem k x) (at + i) ≡ f i
table_other f mem at n k x h g i l = get_or-set_other mem k (at + i) x 0 (λ s. ⊎_elim (λ a. omega arith) (λ a. omega arith) g) ∙ h i l
