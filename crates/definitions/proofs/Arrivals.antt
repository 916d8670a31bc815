-- The pass over a predecessor's replicas: least and largest arrival, own replicas apart.
use Rattle.std.specs.Prelude.{if◌then◌else◌}
use mathlib.Core.Path.{◌≡◌, refl, ap, ◌∙◌, sym}
use mathlib.Core.Logic.{◌⊎◌, inl, inr, ⊎_elim}
use mathlib.Core.List.{List, [], ◌∷◌, ◌++◌, map}
use mathlib.Core.Bool.{Bool, true, false}
use Prim.Native.Nat.{ℕ, ◌≤◌}
use native.Mathlib.Nat.{mul-zero}
use lib.Dec.{eqb}
use Rattle.definitions.specs.Lists.{In, some_or, last_of, keep}
use Rattle.definitions.specs.Job.{Edge, Job, delay}
use Rattle.definitions.specs.Times.{Time, tick, never, later, sooner, after, least, largest, Outcome, of_task, on_processor, times, message, feeding, arrival}
use Rattle.definitions.specs.Shelf.{NoLater}
use Rattle.definitions.proofs.Lists.{in_map, map_in}
use Rattle.definitions.proofs.Later.{later_comm, later_assoc, later_zero, sooner_assoc, sooner_never, after_zero, after_sooner}
use Rattle.definitions.proofs.Later.{no_later_then, afters_no_later, more_no_later, sooner_no_later, sooner_of, least_no_later, no_later_largest, largest_no_later}
use Rattle.definitions.proofs.Feeding.{last_cases, in_on}

-- The time of the last of some outcomes that is on p; x, of none.
unfoldable pub own_time : Time → ℕ → List Outcome → Time
own_time x p [] = x
own_time x p (d ∷ ds) = own_time (if eqb d.processor p then d.time else x) p ds

-- One more at the end.
pub own_last : (x : Time) (p : ℕ) (ds : List Outcome) (d : Outcome) → own_time x p (ds ++ d ∷ []) ≡ (if eqb d.processor p then d.time else own_time x p ds)
unfolding own_time
own_last x p [] d = refl
own_last x p (c ∷ ds) d = own_last (if eqb c.processor p then c.time else x) p ds d

pub least_last : (f : Outcome → Time) (ds : List Outcome) (d : Outcome) → least (map f (ds ++ d ∷ [])) ≡ sooner (least (map f ds)) (f d)
unfolding least
least_last f [] d = sooner_never (f d)
least_last f (c ∷ ds) d = ap (sooner (f c)) (least_last f ds d) ∙ sym (sooner_assoc (f c) (least (map f ds)) (f d))

pub largest_last : (f : Outcome → Time) (ds : List Outcome) (d : Outcome) → largest (map f (ds ++ d ∷ [])) ≡ later (largest (map f ds)) (f d)
unfolding largest
largest_last f [] d = later_comm (f d) (tick 0)
largest_last f (c ∷ ds) d = ap (later (f c)) (largest_last f ds d) ∙ sym (later_assoc (f c) (largest (map f ds)) (f d))

-- One alone is the least and the largest.
least_alone : (x : Time) → least (x ∷ []) ≡ x
unfolding least
least_alone x = sooner_never x

largest_alone : (x : Time) → largest (x ∷ []) ≡ x
unfolding largest
largest_alone x = later_comm x (tick 0) ∙ later_zero x

-- The time of the first; x, of none.
abbrev first_time : Time → List Outcome → Time
first_time x [] = x
first_time x (d ∷ ds) = d.time

-- The last on p, read off the list as `feeding` takes it.
own_first : (x : Time) (p : ℕ) (ds : List Outcome) → own_time x p ds ≡ first_time x (last_of (on_processor p ds))
unfolding own_time on_processor last_of keep
own_first x p [] = refl
own_first x p (d ∷ ds) = by (eqb d.processor p) (own_first (if eqb d.processor p then d.time else x) p ds)
  where
    or_first : (cs : List Outcome) → first_time d.time cs ≡ first_time x (some_or cs (d ∷ []))
    or_first [] = refl
    or_first (c ∷ cs) = refl

    by : (b : Bool) → own_time (if b then d.time else x) p ds ≡ first_time (if b then d.time else x) (last_of (on_processor p ds))
        → own_time (if b then d.time else x) p ds ≡ first_time x (last_of (if b then d ∷ on_processor p ds else on_processor p ds))
    by true h = h ∙ or_first (last_of (on_processor p ds))
    by false h = h

module _ (j : Job) (row : List Outcome) (p : ℕ) (e : Edge) (one : of_task e.from row ≡ row) (own : delay j p p ≡ 0) where
  -- When the data of a replica is on p.
  abbrev sent : Outcome → Time
  sent d = after (message j e d.processor p) d.time

  -- Of a choice that takes one alone: where none is on p, it is among all; else it is the last on p, whose data needs no cable.
  own_cases : (choose : List Time → Time) → ((x : Time) → choose (x ∷ []) ≡ x)
      → ((arrival j choose row p e ≡ choose (map sent row)) × ((x : Time) → own_time x p row ≡ x))
      ⊎ ((d : Outcome) × In d row × (d.processor ≡ p) × (sent d ≡ d.time) × (arrival j choose row p e ≡ d.time) × ((x : Time) → own_time x p row ≡ d.time))
  unfolding arrival feeding
  own_cases choose alone =
      ⊎_elim (λ n. inl (rw one (rw n), λ x. own_first x p row ∙ rw n))
      (λ r.
      let (d, i, f) = r in
      let (k, q) = in_on p d row i in
      let here : sent d ≡ d.time = rw (q, own, mul-zero e.volume) (after_zero d.time) in
      inr (d, k, q, here, rw one (rw f (alone (sent d) ∙ here)), λ x. own_first x p row ∙ rw f))
      (last_cases (on_processor p row))

  -- What the pass yields is what the equations name (request L2).
  pub arrival_least : arrival j least row p e ≡ later (least (map (λ d. after (message j e d.processor p) d.time) row)) (own_time (tick 0) p row)
  arrival_least =
      let all = least (map sent row) in
      ⊎_elim (λ r. r.0 ∙ sym (ap (later all) (r.1 (tick 0)) ∙ later_comm all (tick 0) ∙ later_zero all))
      (λ r.
      let (d, k, q, here, a, o) = r in
      a ∙ sym (ap (later all) (o (tick 0)) ∙ (rw here at (least_no_later (sent d) (map sent row) (map_in sent d row k)))))
      (own_cases least least_alone)

  pub arrival_largest : arrival j largest row p e ≡ sooner (largest (map (λ d. after (message j e d.processor p) d.time) row)) (own_time never p row)
  arrival_largest =
      let all = largest (map sent row) in
      ⊎_elim (λ r. r.0 ∙ sym (ap (sooner all) (r.1 never) ∙ sooner_never all))
      (λ r.
      let (d, k, q, here, a, o) = r in
      a ∙ sym (ap (sooner all) (o never) ∙ sooner_of d.time all (rw here at (no_later_largest (sent d) (map sent row) (map_in sent d row k)))))
      (own_cases largest largest_alone)

  -- Where p is ready after its own replicas of the predecessor, and after the data of the others could be anywhere, it waits for nothing.
  module _ (z : Time) (n : ℕ) (behind : (d : Outcome) → In d row → d.processor ≡ p → NoLater d.time z)
      (far : (d : Outcome) → In d row → message j e d.processor p ≤ n) where
    waits_not : (choose : List Time → Time) → ((x : Time) → choose (x ∷ []) ≡ x) → NoLater (choose (map sent row)) z → later z (arrival j choose row p e) ≡ z
    waits_not choose alone h =
        later_comm z (arrival j choose row p e)
        ∙ ⊎_elim (λ r. rw r.0 h) (λ r. let (d, k, q, here, a, o) = r in rw a (behind d k q)) (own_cases choose alone)

    pub least_waits_not : NoLater (after n (least (times row))) z → later z (arrival j least row p e) ≡ z
    unfolding least
    least_waits_not h = waits_not least least_alone (no_later_then (least (map sent row)) (after n (least (times row))) z (by row far) h)
      where
        by : (ds : List Outcome) → ((d : Outcome) → In d ds → message j e d.processor p ≤ n) → NoLater (least (map sent ds)) (after n (least (times ds)))
        by [] f = refl
        by (d ∷ ds) f =
            rw (after_sooner n d.time (least (times ds)))
            (sooner_no_later (sent d) (least (map sent ds)) (after n d.time) (after n (least (times ds)))
            (more_no_later (message j e d.processor p) n d.time (f d (inl refl))) (by ds (λ c i. f c (inr i))))

    pub largest_waits_not : NoLater (after n (largest (times row))) z → later z (arrival j largest row p e) ≡ z
    largest_waits_not h =
        let all = largest (times row) in
        waits_not largest largest_alone (no_later_then (largest (map sent row)) (after n all) z (largest_no_later (map sent row) (after n all) λ x i.
        let (d, k, q) = in_map sent x row i in
        let last : NoLater d.time all = no_later_largest d.time (times row) (map_in (λ (d : Outcome). d.time) d row k) in
        rw q at (no_later_then (sent d) (after n d.time) (after n all)
        (more_no_later (message j e d.processor p) n d.time (far d k)) (afters_no_later n d.time all last))) h)
