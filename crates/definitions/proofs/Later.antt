-- Laws of the later and the sooner of two times, and of one that is no later than another.
use mathlib.Core.Path.{◌≡◌, refl, ap, ◌∙◌, sym}
use mathlib.Core.Logic.{inl, inr, ⊎_elim}
use mathlib.Core.List.{List, [], ◌∷◌, map}
use Prim.Native.Nat.{ℕ, ◌+◌, ◌≤◌, max, min}
use native.Mathlib.Omega.{arith}
use Rattle.definitions.specs.Lists.{In}
use Rattle.definitions.specs.Times.{Time, tick, never, later, sooner, after, least, largest, unless_stopped}
use Rattle.definitions.specs.Shelf.{NoLater}
use Rattle.definitions.proofs.Stopping.{stopped}

pub later_comm : (x y : Time) → later x y ≡ later y x
later_comm (tick x) (tick y) = let e : max x y ≡ max y x = omega arith in ap tick e
later_comm (tick x) never = refl
later_comm never (tick y) = refl
later_comm never never = refl

pub later_assoc : (x y z : Time) → later (later x y) z ≡ later x (later y z)
later_assoc (tick x) (tick y) (tick z) = let e : max (max x y) z ≡ max x (max y z) = omega arith in ap tick e
later_assoc (tick x) (tick y) never = refl
later_assoc (tick x) never z = refl
later_assoc never y z = refl

pub later_zero : (x : Time) → later (tick 0) x ≡ x
later_zero (tick x) = let e : max 0 x ≡ x = omega arith in ap tick e
later_zero never = refl

pub sooner_assoc : (x y z : Time) → sooner (sooner x y) z ≡ sooner x (sooner y z)
sooner_assoc (tick x) (tick y) (tick z) = let e : min (min x y) z ≡ min x (min y z) = omega arith in ap tick e
sooner_assoc (tick x) (tick y) never = refl
sooner_assoc (tick x) never z = refl
sooner_assoc never y z = refl

pub sooner_never : (x : Time) → sooner x never ≡ x
sooner_never (tick x) = refl
sooner_never never = refl

pub after_zero : (x : Time) → after 0 x ≡ x
after_zero (tick x) = let e : x + 0 ≡ x = omega arith in ap tick e
after_zero never = refl

pub after_sooner : (n : ℕ) (x y : Time) → after n (sooner x y) ≡ sooner (after n x) (after n y)
after_sooner n (tick x) (tick y) = let e : min x y + n ≡ min (x + n) (y + n) = omega arith in ap tick e
after_sooner n (tick x) never = refl
after_sooner n never y = refl

-- No later ------------------------------------------------------------------------------------------------------

pub no_later_self : (x : Time) → NoLater x x
no_later_self (tick x) = let e : max x x ≡ x = omega arith in ap tick e
no_later_self never = refl

pub no_later_then : (x y z : Time) → NoLater x y → NoLater y z → NoLater x z
no_later_then x y z h g = ap (later x) (sym g) ∙ sym (later_assoc x y z) ∙ ap (λ (u : Time). later u z) h ∙ g

pub first_no_later : (x y : Time) → NoLater x (later x y)
first_no_later x y = sym (later_assoc x x y) ∙ ap (λ (u : Time). later u y) (no_later_self x)

pub second_no_later : (x y : Time) → NoLater y (later x y)
second_no_later x y = rw (later_comm x y) (first_no_later y x)

pub both_no_later : (x y z : Time) → NoLater x z → NoLater y z → NoLater (later x y) z
both_no_later x y z h g = later_assoc x y z ∙ ap (later x) g ∙ h

pub later_no_later : (x y u v : Time) → NoLater x u → NoLater y v → NoLater (later x y) (later u v)
later_no_later x y u v h g =
    both_no_later x y (later u v) (no_later_then x u (later u v) h (first_no_later u v)) (no_later_then y v (later u v) g (second_no_later u v))

pub after_no_later : (n : ℕ) (x : Time) → NoLater x (after n x)
after_no_later n (tick x) = let e : max x (x + n) ≡ x + n = omega arith in ap tick e
after_no_later n never = refl

pub afters_no_later : (n : ℕ) (x y : Time) → NoLater x y → NoLater (after n x) (after n y)
afters_no_later n (tick x) (tick y) h = let e : max x y ≡ y = cc in let f : max (x + n) (y + n) ≡ y + n = omega arith in ap tick f
afters_no_later n (tick x) never h = refl
afters_no_later n never (tick y) h = let z : ◌≡◌ {A = ℕ} 0 1 = cc in absurd (omega arith)
afters_no_later n never never h = refl

pub more_no_later : (m n : ℕ) (x : Time) → m ≤ n → NoLater (after m x) (after n x)
more_no_later m n (tick x) h = let e : max (x + m) (x + n) ≡ x + n = omega arith in ap tick e
more_no_later m n never h = refl

never_last : (x : Time) → NoLater x never
never_last (tick x) = refl
never_last never = refl

pub stopped_no_later : (s x : Time) → NoLater x (unless_stopped s x)
stopped_no_later s x = ⊎_elim (λ q. rw q (no_later_self x)) (λ q. rw q (never_last x)) (stopped s x)

sooner_first : (x y : Time) → NoLater (sooner x y) x
sooner_first (tick x) (tick y) = let e : max (min x y) x ≡ x = omega arith in ap tick e
sooner_first (tick x) never = no_later_self (tick x)
sooner_first never y = never_last y

sooner_second : (x y : Time) → NoLater (sooner x y) y
sooner_second (tick x) (tick y) = let e : max (min x y) y ≡ y = omega arith in ap tick e
sooner_second (tick x) never = refl
sooner_second never y = no_later_self y

no_later_sooner : (x y z : Time) → NoLater z x → NoLater z y → NoLater z (sooner x y)
no_later_sooner (tick x) (tick y) (tick z) h g =
    let a : max z x ≡ x = cc in let b : max z y ≡ y = cc in let e : max z (min x y) ≡ min x y = omega arith in ap tick e
no_later_sooner (tick x) (tick y) never h g = let z : ◌≡◌ {A = ℕ} 0 1 = cc in absurd (omega arith)
no_later_sooner (tick x) never z h g = h
no_later_sooner never y z h g = g

pub sooner_no_later : (x y u v : Time) → NoLater x u → NoLater y v → NoLater (sooner x y) (sooner u v)
sooner_no_later x y u v h g =
    no_later_sooner u v (sooner x y) (no_later_then (sooner x y) x u (sooner_first x y) h) (no_later_then (sooner x y) y v (sooner_second x y) g)

-- Of two times the one that is no later is the sooner.
pub sooner_of : (x y : Time) → NoLater x y → sooner y x ≡ x
sooner_of (tick x) (tick y) h = let a : max x y ≡ y = cc in let e : min y x ≡ x = omega arith in ap tick e
sooner_of (tick x) never h = refl
sooner_of never y h = sooner_never y ∙ sym h

-- The least is no later than any; none is later than the largest, nor is the largest if all are not.
pub least_no_later : (x : Time) (xs : List Time) → In x xs → NoLater (least xs) x
unfolding least
least_no_later x [] x'' = elim x'' [ ]
least_no_later x (y ∷ xs) (inl e) = rw e (sooner_first x (least xs))
least_no_later x (y ∷ xs) (inr i) = no_later_then (sooner y (least xs)) (least xs) x (sooner_second y (least xs)) (least_no_later x xs i)

pub no_later_largest : (x : Time) (xs : List Time) → In x xs → NoLater x (largest xs)
unfolding largest
no_later_largest x [] x'' = elim x'' [ ]
no_later_largest x (y ∷ xs) (inl e) = rw e (first_no_later x (largest xs))
no_later_largest x (y ∷ xs) (inr i) = no_later_then x (largest xs) (later y (largest xs)) (no_later_largest x xs i) (second_no_later y (largest xs))

pub largest_no_later : (xs : List Time) (z : Time) → ((x : Time) → In x xs → NoLater x z) → NoLater (largest xs) z
unfolding largest
largest_no_later [] z h = later_zero z
largest_no_later (x ∷ xs) z h = both_no_later x (largest xs) z (h x (inl refl)) (largest_no_later xs z (λ y i. h y (inr i)))

-- The largest of times that a function gives, and another gives no sooner.
pub largests_no_later : {A : Type 0} (f g : A → Time) (xs : List A) → ((x : A) → In x xs → NoLater (f x) (g x)) → NoLater (largest (map f xs)) (largest (map g xs))
unfolding largest
largests_no_later f g [] h = refl
largests_no_later f g (x ∷ xs) h =
    later_no_later (f x) (largest (map f xs)) (g x) (largest (map g xs)) (h x (inl refl)) (largests_no_later f g xs (λ y i. h y (inr i)))
