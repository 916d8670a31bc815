-- The processors that the planner chooses for a task: as many as are asked for, ascending, each once.
use Rattle.std.specs.Prelude.{if◌then◌else◌}
use mathlib.Core.Path.{◌≡◌, refl, ◌∙◌}
use mathlib.Core.Logic.{◌⊎◌, inl, ⊎_elim}
use mathlib.Core.List.{List, [], ◌∷◌, map}
use mathlib.Core.Bool.{Bool, true, false}
use Prim.Native.Nat.{ℕ, zero, suc, ◌<◌, ◌≤◌}
use native.Mathlib.Omega.{arith}
use lib.Dec.{eqb, ltb}
use lib.ListN.{length, length-map}
use borrow.Author.Tests.{eqb-true, eqb-false, ltb-true, lt-ltb, le-ltb}
use Rattle.definitions.specs.Lists.{In, nth, keep, distinct, count_from, below}
use Rattle.definitions.specs.Job.{Job}
use Rattle.definitions.specs.Plan.{descends}
use Rattle.definitions.specs.Planner.{goes_before, chosen}
use Rattle.definitions.proofs.Lists.{less_trans, less_once, one_less_pair, in_map, map_in, in_keep, keep_in, head_apart, fits, distinct_keep, distinct_map, full, length_count, in_count, in_below, below_in, distinct_count}

-- Lists -------------------------------------------------------------------------------------------------------

-- What is kept is less than a list with the same members and one more, which is not kept.
fewer : (f : ℕ → Bool) (x : ℕ) (xs ys : List ℕ) → distinct xs ≡ true → (f x ≡ true → ⊥) → In x ys
    → ((y : ℕ) → In y xs → f y ≡ true → In y ys) → length (keep f xs) < length ys
fewer f x xs ys d n i h =
    fits (x ∷ keep f xs) ys (head_apart x (keep f xs) (λ k. n (in_keep f x xs k).1) (distinct_keep f xs d)) (λ y. ⊎_elim (λ e. rw (← e) i) (λ k. let r = in_keep f y xs k in h y r.0 r.1))

-- A number before others that are no less, which do not descend.
pub ascends_cons : (p : ℕ) (ps : List ℕ) → ((q : ℕ) → In q ps → p ≤ q) → descends ps ≡ false → descends (p ∷ ps) ≡ false
unfolding descends
ascends_cons p [] h d = refl
ascends_cons p (q ∷ ps) h d = rw (le-ltb q p (h q (inl refl))) d

pub keep_ascends : (f : ℕ → Bool) (k n : ℕ) → descends (keep f (count_from k n)) ≡ false
unfolding keep count_from descends
keep_ascends f k zero = refl
keep_ascends f k (suc n) = by (f k) (keep_ascends f (suc k) n)
  where
    by : (b : Bool) → descends (keep f (count_from (suc k) n)) ≡ false → descends (if b then k ∷ keep f (count_from (suc k) n) else keep f (count_from (suc k) n)) ≡ false
    by true d = ascends_cons k (keep f (count_from (suc k) n)) (λ q i. let r = in_count (suc k) n q (in_keep f q (count_from (suc k) n) i).0 in omega arith) d
    by false d = d

-- The order of the processors --------------------------------------------------------------------------------------

module _ (j : Job) (finishes : List ℕ) where
  -- How many processors go before p.
  abbrev rank : ℕ → ℕ
  rank p = length (keep (goes_before finishes p) (below j.processors))

  -- A processor q goes before a processor p if its early finish and its number are the lesser pair.
  goes_apart : (p : ℕ) → goes_before finishes p p ≡ true → ⊥
  goes_apart p h = less_once (nth finishes p) p (nth finishes p) p h h

  goes_past : (p q r : ℕ) → goes_before finishes p q ≡ true → goes_before finishes q r ≡ true → goes_before finishes p r ≡ true
  goes_past p q r h g = less_trans (nth finishes r) r (nth finishes q) q (nth finishes p) p g h

  one_goes : (p q : ℕ) → (p ≡ q → ⊥) → (goes_before finishes q p ≡ true) ⊎ (goes_before finishes p q ≡ true)
  one_goes p q n = one_less_pair (nth finishes p) p (nth finishes q) q (λ _. n)

  rank_below : (p : ℕ) → p < j.processors → rank p < j.processors
  rank_below p h =
      let processors = below j.processors in
      rw (length_count 0 j.processors) at
      (fewer (goes_before finishes p) p processors processors (distinct_count 0 j.processors) (goes_apart p) (below_in j.processors p h) (λ q i g. i))

  rank_less : (p q : ℕ) → q < j.processors → goes_before finishes p q ≡ true → rank q < rank p
  rank_less p q h g =
      let processors = below j.processors in
      fewer (goes_before finishes q) q processors (keep (goes_before finishes p) processors) (distinct_count 0 j.processors) (goes_apart q)
      (keep_in (goes_before finishes p) q processors (below_in j.processors q h) g)
      (λ r i f. keep_in (goes_before finishes p) r processors i (goes_past p q r g f))

  rank_apart : (p q : ℕ) → p < j.processors → q < j.processors → rank p ≡ rank q → p ≡ q
  rank_apart p q h g e = by (eqb p q) refl
    where
      by : (b : Bool) → eqb p q ≡ b → p ≡ q
      by true t = eqb-true p q t
      by false t =
          ⊎_elim
          (λ s. absurd (omega (arith, rank_less q p h s)))
          (λ s. absurd (omega (arith, rank_less p q g s)))
          (one_goes p q (eqb-false p q t))

  -- Every number below m is the rank of a processor.
  ranks : (r : ℕ) → r < j.processors → (p : ℕ) × In p (below j.processors) × (rank p ≡ r)
  ranks r h =
      let m = j.processors in
      let processors = below m in
      in_map rank r processors
      (full m (map rank processors)
      (distinct_map rank processors (λ p q i k. rank_apart p q (in_below m p i) (in_below m q k)) (distinct_count 0 m))
      (λ x i. let s = in_map rank x processors i in let b = rank_below s.0 (in_below m s.0 s.1) in rw s.2 at b)
      (length-map processors rank ∙ length_count 0 m)
      r h)

  pub chosen_count : (k : ℕ) → k ≤ j.processors → length (chosen j k finishes) ≡ k
  unfolding chosen
  chosen_count k h =
      let m = j.processors in
      let processors = below m in
      let few : ℕ → Bool = λ p. ltb (rank p) k in
      let kept = keep few processors in
      let most : length (map rank kept) ≤ length (below k) =
      fits (map rank kept) (below k)
      (distinct_map rank kept (λ p q i l. rank_apart p q (in_below m p (in_keep few p processors i).0) (in_below m q (in_keep few q processors l).0))
      (distinct_keep few processors (distinct_count 0 m)))
      (λ x i. let s = in_map rank x kept i in let b = ltb-true (rank s.0) k (in_keep few s.0 processors s.1).1 in below_in k x (rw s.2 at b)) in
      let least : length (below k) ≤ length (map rank kept) =
      fits (below k) (map rank kept) (distinct_count 0 k)
      (λ x i.
      let b = in_below k x i in
      let s = ranks x (omega arith) in
      let t : rank s.0 < k = omega (arith, s.2) in
      rw s.2 at (map_in rank s.0 kept (keep_in few s.0 processors s.1 (lt-ltb (rank s.0) k t)))) in
      omega (arith, length-map kept rank, length_count 0 k)

  pub chosen_below : (k p : ℕ) → In p (chosen j k finishes) → p < j.processors
  unfolding chosen
  chosen_below k p i = in_below j.processors p (in_keep (λ p. ltb (rank p) k) p (below j.processors) i).0

  pub chosen_distinct : (k : ℕ) → distinct (chosen j k finishes) ≡ true
  unfolding chosen
  chosen_distinct k = distinct_keep (λ p. ltb (rank p) k) (below j.processors) (distinct_count 0 j.processors)

  pub chosen_ascends : (k : ℕ) → descends (chosen j k finishes) ≡ false
  unfolding chosen
  chosen_ascends k = keep_ascends (λ p. ltb (rank p) k) 0 j.processors
