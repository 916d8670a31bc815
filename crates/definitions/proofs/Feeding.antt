-- Which replicas of a predecessor feed a processor: one of its own, or all.
use mathlib.Core.Path.{◌≡◌, refl}
use mathlib.Core.Logic.{◌⊎◌, inl, inr, ⊎_elim}
use mathlib.Core.List.{List, [], ◌∷◌}
use mathlib.Core.Bool.{Bool, true, false}
use Prim.Native.Nat.{ℕ, ◌<◌}
use native.Mathlib.Omega.{arith}
use lib.Dec.{eqb}
use lib.ListN.{length}
use borrow.Author.Tests.{eqb-true}
use Rattle.definitions.specs.Lists.{In, any, last_of}
use Rattle.definitions.specs.Job.{Job}
use Rattle.definitions.specs.Times.{Outcome, of_task, on_processor, feeding}
use Rattle.definitions.proofs.Lists.{any_in, none_in, in_keep, keep_in, keep_none}

-- The last member is a member, if there is one.
last_more : {A : Type 0} (x : A) (xs : List A) → (y : A) × In y (x ∷ xs) × (last_of (x ∷ xs) ≡ y ∷ [])
unfolding last_of
last_more x [] = (x, inl refl, refl)
last_more x (z ∷ xs) = let (y, i, e) = last_more z xs in (y, inr i, rw e)

pub last_cases : {A : Type 0} (xs : List A) → (last_of xs ≡ []) ⊎ ((x : A) × In x xs × (last_of xs ≡ x ∷ []))
unfolding last_of
last_cases [] = inl refl
last_cases (x ∷ xs) = inr (last_more x xs)

last_some : {A : Type 0} (x : A) (xs : List A) → In x xs → (y : A) × In y xs × (last_of xs ≡ y ∷ [])
last_some {A = A} x [] i = elim i [ ]
last_some x (y ∷ xs) i = last_more y xs

-- Those on a processor.
pub in_on : (p : ℕ) (d : Outcome) (ds : List Outcome) → In d (on_processor p ds) → In d ds × (d.processor ≡ p)
unfolding on_processor
in_on p d ds i = let (k, q) = in_keep (λ d. eqb d.processor p) d ds i in (k, eqb-true d.processor p q)

module _ (j : Job) (t p : ℕ) (placed : List Outcome) where
  -- Some replica of the task is on p.
  abbrev own : Bool
  own = any (λ d. eqb d.processor p) (of_task t placed)

  -- Where none is, all feed p.
  pub feeding_none : any (λ d. eqb d.processor p) (of_task t placed) ≡ false → feeding j t p placed ≡ of_task t placed
  unfolding feeding on_processor last_of
  feeding_none h = rw (keep_none (λ d. eqb d.processor p) (of_task t placed) (λ d i. none_in (λ d. eqb d.processor p) d (of_task t placed) h i))

  -- Else one of those on p does, alone.
  pub feeding_own : any (λ d. eqb d.processor p) (of_task t placed) ≡ true → (d : Outcome) × In d (of_task t placed) × (d.processor ≡ p) × (feeding j t p placed ≡ d ∷ [])
  unfolding feeding on_processor
  feeding_own h =
      let on = on_processor p (of_task t placed) in
      let (e, k, q) = any_in (λ d. eqb d.processor p) (of_task t placed) h in
      let (d, i, f) = last_some e on (keep_in (λ d. eqb d.processor p) e (of_task t placed) k q) in
      let (m, o) = in_on p d (of_task t placed) i in
      (d, m, o, rw f)

  pub feeding_cases : (feeding j t p placed ≡ of_task t placed)
      ⊎ ((d : Outcome) × In d (of_task t placed) × (d.processor ≡ p) × (feeding j t p placed ≡ d ∷ []))
  feeding_cases = by own refl
    where
      by : (b : Bool) → own ≡ b → (feeding j t p placed ≡ of_task t placed)
          ⊎ ((d : Outcome) × In d (of_task t placed) × (d.processor ≡ p) × (feeding j t p placed ≡ d ∷ []))
      by true h = inr (feeding_own h)
      by false h = inl (feeding_none h)

  -- Where there is a replica, one feeds p.
  pub feeding_some : 0 < length (of_task t placed) → 0 < length (feeding j t p placed)
  feeding_some h = ⊎_elim (λ e. rw e h) (λ r. rw r.3 (omega arith)) feeding_cases

  pub in_feeding : (d : Outcome) → In d (feeding j t p placed) → In d (of_task t placed)
  in_feeding d i = ⊎_elim (λ e. rw e at i) (λ r. only r.0 r.1 (rw r.3 at i)) feeding_cases
    where
      only : (e : Outcome) → In e (of_task t placed) → In d (e ∷ []) → In d (of_task t placed)
      only e k (inl q) = rw q at k
      only e k (inr i) = absurd i
