-- Numbers below a bound, and lists made of them.
use Rattle.lists.proofs.Prelude.{◌≡◌, refl, ap, ◌∙◌, ◌⊎◌, inl, inr, ⊎_elim, map, Bool, true, false, ℕ, zero, suc, ◌+◌, ◌<◌, ◌≤◌, arith, eqb-true, eqb-false, eqb, get_or, count_from, below}
use Rattle.definitions.proofs.Lists.{map_same, in_below}

pub equal_or_not : (a b : ℕ) → (a ≡ b) ⊎ (a ≡ b → ⊥)
equal_or_not a b = by (eqb a b) refl
  where
    by : (t : Bool) → eqb a b ≡ t → (a ≡ b) ⊎ (a ≡ b → ⊥)
    by true e = inl (eqb-true a b e)
    by false e = inr (eqb-false a b e)

pub last_or_before : (n k : ℕ) → k < suc n → (k ≡ n) ⊎ (k < n)
last_or_before n k h = ⊎_elim inl (λ d. inr (omega arith)) (equal_or_not k n)

-- What holds at c, and goes on holding, holds at n.
pub goes_on : (P : ℕ → Type 0) → ((n : ℕ) → P n → P (suc n)) → (c n : ℕ) → c ≤ n → P c → P n
goes_on P f c zero l h = let e : c ≡ 0 = omega arith in rw e at h
goes_on P f c (suc n) l h = ⊎_elim (λ (e : c ≡ suc n). rw e at h) (λ g. f n (goes_on P f c n (omega arith) h)) (last_or_before (suc n) c (omega arith))

-- Member i of what f makes of the n numbers from k on.
pub get_or_count : {A : Type 0} (f : ℕ → A) (k n i : ℕ) (d : A) → i < n → get_or (map f (count_from k n)) i d ≡ f (k + i)
unfolding count_from
get_or_count f k zero i d h = absurd (omega arith)
get_or_count f k (suc n) zero d h = let e : k ≡ k + 0 = omega arith in ap f e
get_or_count f k (suc n) (suc i) d h = let e : suc k + i ≡ k + suc i = omega arith in get_or_count f (suc k) n i d (omega arith) ∙ ap f e

pub get_or_below : {A : Type 0} (f : ℕ → A) (n i : ℕ) (d : A) → i < n → get_or (map f (below n)) i d ≡ f i
get_or_below f n i d h = let e : 0 + i ≡ i = omega arith in get_or_count f 0 n i d h ∙ ap f e

-- Two functions that agree below n make the same of the numbers below n.
pub below_same : {A : Type 0} (f g : ℕ → A) {n m : ℕ} → m ≡ n → ((i : ℕ) → i < n → f i ≡ g i) → map f (below m) ≡ map g (below n)
below_same f g {n} e h = rw e (map_same f g (below n) (λ i m. h i (in_below n i m)))

pub zero_or_more : (k : ℕ) → (k ≡ 0) ⊎ (0 < k)
zero_or_more zero = inl refl
zero_or_more (suc k) = inr (omega arith)
