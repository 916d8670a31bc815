-- Plans on the shelf. A processor is ready no sooner than its own replicas have finished; so early, and in the replay, it makes no
-- difference whether the data of the others counts beside its own.
use Rattle.std.specs.Prelude.{if◌then◌else◌}
use mathlib.Core.Path.{◌≡◌, refl, ap, ◌∙◌, sym}
use mathlib.Core.Logic.{◌⊎◌, inl, inr, ⊎_elim}
use mathlib.Core.List.{List, [], ◌∷◌, ◌++◌, map, reverse_aux}
use mathlib.Core.Bool.{Bool, true, false, not}
use Prim.Native.Nat.{ℕ, zero, suc, ◌+◌, ◌<◌, ◌≤◌, max}
use native.Mathlib.Omega.{arith}
use native.Mathlib.Nat.{mul-zero}
use lib.Dec.{eqb}
use borrow.Author.Tests.{eqb-true, eq-eqb}
use Rattle.definitions.specs.Lists.{In, keep, below}
use Rattle.definitions.specs.Limits.{Limits}
use Rattle.definitions.specs.Job.{Edge, Job, incoming}
use Rattle.definitions.specs.Plan.{Replica, Line}
use Rattle.definitions.specs.Stops.{Stop}
use Rattle.definitions.specs.Facts.{JobFacts, Ordered}
use Rattle.definitions.specs.Times.{Time, tick, never, later, after, least, largest, Placement, Outcome, outcome, of_task, times, ready, message, feeding, arrival_from, arrival, data_ready, start, stop_time, unless_stopped, finish, walk, placement_of, placements_of, placements, earlies, lates, exits, makespan, lower_bound, upper_bound}
use Rattle.definitions.specs.Planner.{tick_of, Waiting, waiting_from, bottom_levels, free_tasks, critical_task, trial, chosen, replicas, place, plan_for}
use Rattle.definitions.specs.Replay.{replay}
use Rattle.definitions.specs.Shelf.{data_from_all, shelf_finish, shelf_walk, shelf_trial, shelf_place, shelf_plan, Pairwise, NoLater, Settled, Sooner, Tightened, LineTightened, Redrawn}
use Rattle.definitions.proofs.Lists.{in_map, map_in, map_same, keep_in, in_below, in_reverse}
use Rattle.definitions.proofs.Tasks.{in_task, line_facts}
use Rattle.definitions.proofs.Ready.{first_ready_lem}
use Rattle.definitions.proofs.Feeding.{feeding_cases, in_feeding}
use Rattle.definitions.proofs.Doubled.{placements_in_lem}
use Rattle.definitions.proofs.Chosen.{chosen_below}
use Rattle.definitions.proofs.Guarantee.{Come}
use Rattle.definitions.proofs.Placing.{placed_ordered}
use Rattle.definitions.proofs.Later.{later_comm, later_assoc, after_zero, no_later_self, no_later_then, first_no_later, later_no_later, after_no_later, afters_no_later, stopped_no_later, least_no_later, no_later_largest, largest_no_later, largests_no_later}

-- What is ready ---------------------------------------------------------------------------------------------------

module _ (j : Job) where
  -- One more, which finishes no sooner than its processor was ready.
  pub settled_more : (d : Outcome) (placed : List Outcome) → NoLater (ready j d.processor placed) d.time → Settled j placed → Settled j (d ∷ placed)
  unfolding ready
  settled_more d placed h s e (inl q) = rw (← q, eq-eqb d.processor d.processor refl) (no_later_self d.time)
  settled_more d placed h s e (inr i) = by (eqb d.processor e.processor) refl
    where
      by : (b : Bool) → eqb d.processor e.processor ≡ b → NoLater e.time (if b then d.time else ready j e.processor placed)
      by true q = no_later_then e.time (ready j e.processor placed) d.time (s e i) (rw (eqb-true d.processor e.processor q) at h)
      by false q = s e i

  pub ready_finish : (choose : List Time → Time) (stops : List Stop) (placed : List Outcome) (c : Placement)
      → NoLater (ready j c.processor placed) (finish j choose stops placed c)
  unfolding finish start
  ready_finish choose stops placed c =
      let r = ready j c.processor placed in
      let d = data_ready j choose placed c.task c.processor in
      let f = after c.run (later r d) in
      no_later_then r f (unless_stopped (stop_time stops c.processor) f)
      (no_later_then r (later r d) f (first_no_later r d) (after_no_later c.run (later r d)))
      (stopped_no_later (stop_time stops c.processor) f)

  pub settled_walk : (choose : List Time → Time) (stops : List Stop) (placed : List Outcome) (cs : List Placement) → Settled j placed
      → Settled j (reverse_aux (walk j choose stops placed cs) placed)
  unfolding walk
  settled_walk choose stops placed [] s = s
  settled_walk choose stops placed (c ∷ cs) s =
      let d = outcome c (finish j choose stops placed c) in
      settled_walk choose stops (d ∷ placed) cs (settled_more d placed (ready_finish choose stops placed c) s)

  -- A line more, whose finishes hang on their processors alone, and are no sooner than these were ready.
  module _ (f : ℕ → Time) (placed : List Outcome) where
    ready_row : (p : ℕ) (row : List Outcome) → ((d : Outcome) → In d row → d.time ≡ f d.processor) → NoLater (ready j p placed) (f p) → NoLater (ready j p (row ++ placed)) (f p)
    unfolding ready
    ready_row p [] h n = n
    ready_row p (d ∷ row) h n = by (eqb d.processor p) refl (ready_row p row (λ e i. h e (inr i)) n)
      where
        by : (b : Bool) → eqb d.processor p ≡ b → NoLater (ready j p (row ++ placed)) (f p) → NoLater (if b then d.time else ready j p (row ++ placed)) (f p)
        by true q r = rw (h d (inl refl), eqb-true d.processor p q) (no_later_self (f p))
        by false q r = r

    pub settled_row : (row : List Outcome) → ((d : Outcome) → In d row → (d.time ≡ f d.processor) × NoLater (ready j d.processor placed) (f d.processor))
        → Settled j placed → Settled j (row ++ placed)
    settled_row [] h s = s
    settled_row (d ∷ row) h s =
        let (e, n) = h d (inl refl) in
        settled_more d (row ++ placed) (rw e (ready_row d.processor row (λ c i. (h c (inr i)).0) n)) (settled_row row (λ c i. h c (inr i)) s)

-- Data ------------------------------------------------------------------------------------------------------------

-- Times that are the same, or both no later than r, make no difference after r.
later_alike : {A : Type 0} (r : Time) (f g : A → Time) (xs : List A) → ((x : A) → In x xs → (f x ≡ g x) ⊎ (NoLater (f x) r × NoLater (g x) r))
    → later r (largest (map f xs)) ≡ later r (largest (map g xs))
unfolding largest
later_alike r f g [] h = refl
later_alike {A} r f g (x ∷ xs) h = by (h x (inl refl)) (later_alike r f g xs (λ y i. h y (inr i)))
  where
    swap : (u v : Time) → later r (later u v) ≡ later u (later r v)
    swap u v = sym (later_assoc r u v) ∙ ap (λ (z : Time). later z v) (later_comm r u) ∙ later_assoc u r v

    drops : (u v : Time) → NoLater u r → later r (later u v) ≡ later r v
    drops u v n = sym (later_assoc r u v) ∙ ap (λ (z : Time). later z v) (later_comm r u ∙ n)

    by : (f x ≡ g x) ⊎ (NoLater (f x) r × NoLater (g x) r) → later r (largest (map f xs)) ≡ later r (largest (map g xs))
        → later r (later (f x) (largest (map f xs))) ≡ later r (later (g x) (largest (map g xs)))
    by (inl e) i = rw e (swap (g x) (largest (map f xs)) ∙ ap (later (g x)) i ∙ sym (swap (g x) (largest (map g xs))))
    by (inr (a, b)) i = drops (f x) (largest (map f xs)) a ∙ i ∙ sym (drops (g x) (largest (map g xs)) b)

module _ (l : Limits) (j : Job) (facts : JobFacts l j) where
  -- A replica's data needs no cable on its own processor.
  pub own_arrival : (e : Edge) (p : ℕ) (x : Time) → p < j.processors → after (message j e p p) x ≡ x
  own_arrival e p x h = rw (facts.delay_self p h, mul-zero e.volume) (after_zero x)

  module _ (placed : List Outcome) (s : Settled j placed) (p : ℕ) (h : p < j.processors) where
    -- Two times are the same, or both have come when p is ready.
    abbrev Alike : Time → Time → Type 0
    Alike x y = (x ≡ y) ⊎ (NoLater x (ready j p placed) × NoLater y (ready j p placed))

    -- When a replica's data is there on its own processor, p is ready no sooner.
    own_done : (e : Edge) (d : Outcome) → In d (of_task e.from placed) → d.processor ≡ p → NoLater (after (message j e d.processor p) d.time) (ready j p placed)
    own_done e d i q = let here = own_arrival e p d.time h in rw (q, here) (rw q at (s d (in_task e.from d placed i).0))

    arrival_alike : (e : Edge) → Alike (arrival j least placed p e) (arrival_from j least (of_task e.from placed) p e)
    unfolding arrival
    arrival_alike e = ⊎_elim (λ q. inl (rw q)) (λ r. inr (own r.0 r.1 r.2 r.3)) (feeding_cases j e.from p placed)
      where
        sent : Outcome → Time
        sent d = after (message j e d.processor p) d.time

        own : (d : Outcome) → In d (of_task e.from placed) → d.processor ≡ p → feeding j e.from p placed ≡ d ∷ []
            → NoLater (least (map sent (feeding j e.from p placed))) (ready j p placed) × NoLater (least (map sent (of_task e.from placed))) (ready j p placed)
        own d i q f =
            let among : (ds : List Outcome) → In d ds → NoLater (least (map sent ds)) (ready j p placed) =
            λ ds k. no_later_then (least (map sent ds)) (sent d) (ready j p placed) (least_no_later (sent d) (map sent ds) (map_in sent d ds k)) (own_done e d i q) in
            (among (feeding j e.from p placed) (rw f (inl refl)), among (of_task e.from placed) i)

    -- An early start, and one in the replay, is the same if the data of every replica counts.
    pub start_all : (t : ℕ) → start j least placed t p ≡ later (ready j p placed) (data_from_all j least placed t p)
    unfolding start data_ready data_from_all
    start_all t = later_alike (ready j p placed) (arrival j least placed p) (λ e. arrival_from j least (of_task e.from placed) p e) (incoming j t) (λ e i. arrival_alike e)

  finish_all : (stops : List Stop) (placed : List Outcome) (c : Placement) → Settled j placed → c.processor < j.processors
      → finish j least stops placed c ≡ shelf_finish j least stops placed c
  unfolding finish shelf_finish
  finish_all stops placed c s h = rw (start_all placed s c.processor h c.task)

  -- So is every early finish, and every finish in the replay.
  walk_all : (stops : List Stop) (placed : List Outcome) (cs : List Placement) → Settled j placed → ((c : Placement) → In c cs → c.processor < j.processors)
      → walk j least stops placed cs ≡ shelf_walk j least stops placed cs
  unfolding walk shelf_walk
  walk_all stops placed [] s h = refl
  walk_all stops placed (c ∷ cs) s h =
      let d = outcome c (finish j least stops placed c) in
      rw (← finish_all stops placed c s (h c (inl refl)))
      (ap {B = List Outcome} (λ r. d ∷ r) (walk_all stops (d ∷ placed) cs (settled_more j d placed (ready_finish j least stops placed c) s) (λ b i. h b (inr i))))

-- Late finishes ---------------------------------------------------------------------------------------------------

-- What stands beside a member; and lists of pairs, the one before the other.
module _ {A : Type 0} (R : A → A → Type 0) where
  beside : (x : A) (xs ys : List A) → Pairwise R xs ys → In x xs → (y : A) × In y ys × R x y
  beside x [] ys r i = absurd i
  beside x (z ∷ xs) [] r i = absurd r
  beside x (z ∷ xs) (y ∷ ys) (r, rs) (inl e) = (y, inl refl, rw e at r)
  beside x (z ∷ xs) (y ∷ ys) (r, rs) (inr i) = let (u, k, q) = beside x xs ys rs i in (u, inr k, q)

  pairs_reverse : (xs ys us vs : List A) → Pairwise R xs ys → Pairwise R us vs → Pairwise R (reverse_aux xs us) (reverse_aux ys vs)
  pairs_reverse [] [] us vs r q = q
  pairs_reverse [] (y ∷ ys) us vs r q = absurd r
  pairs_reverse (x ∷ xs) [] us vs r q = absurd r
  pairs_reverse (x ∷ xs) (y ∷ ys) us vs (r, rs) q = pairs_reverse xs ys (x ∷ us) (y ∷ vs) rs (r, q)

-- The outcomes of a task beside those of the same task.
task_beside : (t : ℕ) (d : Outcome) (xs ys : List Outcome) → Pairwise Sooner xs ys → In d (of_task t xs) → (e : Outcome) × In e (of_task t ys) × Sooner d e
unfolding of_task
task_beside t d xs ys r i =
    let (k, q) = in_task t d xs i in
    let (e, m, s) = beside Sooner d xs ys r k in
    (e, keep_in (λ d. eqb d.task t) e ys m (eq-eqb e.task t (sym s.0 ∙ q)), s)

module _ (j : Job) where
  ready_sooner : (p : ℕ) (xs ys : List Outcome) → Pairwise Sooner xs ys → NoLater (ready j p xs) (ready j p ys)
  unfolding ready
  ready_sooner p [] [] r = no_later_self (ready j p [])
  ready_sooner p [] (y ∷ ys) r = absurd r
  ready_sooner p (x ∷ xs) [] r = absurd r
  ready_sooner p (x ∷ xs) (y ∷ ys) ((t, q, n), rs) = rw q (by (eqb y.processor p) (ready_sooner p xs ys rs))
    where
      by : (b : Bool) → NoLater (ready j p xs) (ready j p ys) → NoLater (if b then x.time else ready j p xs) (if b then y.time else ready j p ys)
      by true r = n
      by false r = r

  -- The data of those that feed p, beside the data of all.
  data_sooner : (t p : ℕ) (xs ys : List Outcome) → Pairwise Sooner xs ys → NoLater (data_ready j largest xs t p) (data_from_all j largest ys t p)
  unfolding data_ready data_from_all arrival
  data_sooner t p xs ys r =
      largests_no_later (arrival j largest xs p) (λ e. arrival_from j largest (of_task e.from ys) p e) (incoming j t) λ e i.
      let sent : Outcome → Time = λ d. after (message j e d.processor p) d.time in
      largest_no_later (map sent (feeding j e.from p xs)) (largest (map sent (of_task e.from ys))) λ x k.
      let (d, m, q) = in_map sent x (feeding j e.from p xs) k in
      let (f, o, s) = task_beside e.from d xs ys r (in_feeding j e.from p xs d m) in
      let n : NoLater (sent d) (sent f) = rw s.1 (afters_no_later (message j e f.processor p) d.time f.time s.2) in
      rw q at (no_later_then (sent d) (sent f) (largest (map sent (of_task e.from ys))) n (no_later_largest (sent f) (map sent (of_task e.from ys)) (map_in sent f (of_task e.from ys) o)))

  walk_sooner : (xs ys : List Outcome) (cs : List Placement) → Pairwise Sooner xs ys → Pairwise Sooner (walk j largest [] xs cs) (shelf_walk j largest [] ys cs)
  unfolding walk shelf_walk finish shelf_finish start stop_time
  walk_sooner xs ys [] r = tt
  walk_sooner xs ys (c ∷ cs) r =
      let t = c.task in
      let p = c.processor in
      let n = afters_no_later c.run (later (ready j p xs) (data_ready j largest xs t p)) (later (ready j p ys) (data_from_all j largest ys t p))
      (later_no_later (ready j p xs) (data_ready j largest xs t p) (ready j p ys) (data_from_all j largest ys t p) (ready_sooner p xs ys r) (data_sooner t p xs ys r)) in
      let s : Sooner (outcome c (finish j largest [] xs c)) (outcome c (shelf_finish j largest [] ys c)) = (refl, refl, n) in
      (s, walk_sooner (outcome c (finish j largest [] xs c) ∷ xs) (outcome c (shelf_finish j largest [] ys c) ∷ ys) cs (s, r))

  makespan_sooner : (xs ys : List Outcome) → Pairwise Sooner xs ys → NoLater (makespan j largest xs) (makespan j largest ys)
  unfolding makespan
  makespan_sooner xs ys r =
      largests_no_later (λ t. largest (times (of_task t xs))) (λ t. largest (times (of_task t ys))) (exits j) λ t i.
      largest_no_later (times (of_task t xs)) (largest (times (of_task t ys))) λ x k.
      let (d, m, q) = in_map (λ (d : Outcome). d.time) x (of_task t xs) k in
      let (e, o, s) = task_beside t d xs ys r m in
      rw q at (no_later_then d.time e.time (largest (times (of_task t ys))) s.2 (no_later_largest e.time (times (of_task t ys)) (map_in (λ (d : Outcome). d.time) e (of_task t ys) o)))

-- They come, where no processor stops ---------------------------------------------------------------------------------

abbrev Comes : Time → Type 0
Comes x = (n : ℕ) × (x ≡ tick n)

after_comes : (n : ℕ) (x : Time) → Comes x → Comes (after n x)
after_comes n x (m, e) = (m + n, rw e)

later_comes : (x y : Time) → Comes x → Comes y → Comes (later x y)
later_comes x y (m, e) (n, f) = (max m n, rw (e, f))

largest_comes : {A : Type 0} (f : A → Time) (xs : List A) → ((x : A) → In x xs → Comes (f x)) → Comes (largest (map f xs))
unfolding largest
largest_comes f [] h = (0, refl)
largest_comes f (x ∷ xs) h = later_comes (f x) (largest (map f xs)) (h x (inl refl)) (largest_comes f xs (λ y i. h y (inr i)))

module _ (j : Job) where
  ready_comes : (p : ℕ) (ys : List Outcome) → Come ys → Comes (ready j p ys)
  unfolding ready
  ready_comes p [] h = (0, first_ready_lem j p)
  ready_comes p (y ∷ ys) h = by (eqb y.processor p) (ready_comes p ys (λ d i. h d (inr i)))
    where
      by : (b : Bool) → Comes (ready j p ys) → Comes (if b then y.time else ready j p ys)
      by true r = h y (inl refl)
      by false r = r

  shelf_comes : (ys : List Outcome) (cs : List Placement) → Come ys → Come (shelf_walk j largest [] ys cs)
  unfolding shelf_walk shelf_finish data_from_all stop_time
  shelf_comes ys [] h = λ d i. absurd i
  shelf_comes ys (c ∷ cs) h =
      let p = c.processor in
      let now : Comes (shelf_finish j largest [] ys c) =
      after_comes c.run (later (ready j p ys) (data_from_all j largest ys c.task p)) (later_comes (ready j p ys) (data_from_all j largest ys c.task p) (ready_comes p ys h)
      (largest_comes (λ e. arrival_from j largest (of_task e.from ys) p e) (incoming j c.task) λ e i.
      largest_comes (λ d. after (message j e d.processor p) d.time) (of_task e.from ys) λ d k.
      after_comes (message j e d.processor p) d.time (h d (in_task e.from d ys k).0))) in
      let d = outcome c (shelf_finish j largest [] ys c) in
      let first : (e : Outcome) → d ≡ e → Comes e.time = λ e q. rw (← q) now in
      λ e. ⊎_elim (first e) (shelf_comes (d ∷ ys) cs (λ e. ⊎_elim (first e) (h e)) e)

tick_most : (x y : Time) → NoLater x y → Comes y → tick_of x ≤ tick_of y
tick_most (tick x) (tick y) h c = let e : max x y ≡ y = cc in omega arith
tick_most (tick x) never h (n, e) = let z : ◌≡◌ {A = ℕ} 0 1 = cc in absurd (omega arith)
tick_most never y h c = omega arith

-- The planner -----------------------------------------------------------------------------------------------------

replicas_tightened : (es xs ys : List Outcome) → Pairwise Sooner xs ys → Come ys → Pairwise Tightened (replicas es xs) (replicas es ys)
unfolding replicas
replicas_tightened [] xs ys r c = tt
replicas_tightened (e ∷ es) [] [] r c = tt
replicas_tightened (e ∷ es) [] (y ∷ ys) r c = absurd r
replicas_tightened (e ∷ es) (x ∷ xs) [] r c = absurd r
replicas_tightened (e ∷ es) (x ∷ xs) (y ∷ ys) (r, rs) c =
    ((refl, refl, tick_most x.time y.time r.2 (c y (inl refl))), replicas_tightened es xs ys rs (λ d i. c d (inr i)))

module _ (l : Limits) (j : Job) (facts : JobFacts l j) where
  -- The boxes tried, and so the boxes chosen, are the same.
  trial_all : (placed : List Outcome) (t : ℕ) → Settled j placed → trial j placed t ≡ shelf_trial j placed t
  unfolding trial shelf_trial
  trial_all placed t s =
      map_same (λ c. tick_of (finish j least [] placed c)) (λ c. tick_of (shelf_finish j least [] placed c)) (placements_of j t (below j.processors)) λ c i.
      let (p, k, e) = in_map (placement_of j t) c (below j.processors) i in
      ap tick_of (finish_all l j facts [] placed c s (rw (← e) (in_below j.processors p k)))

  place_tightened : (losses n : ℕ) (waiting : List Waiting) (es ls ks : List Outcome) → Settled j es → Pairwise Sooner ls ks → Come ks
      → Pairwise LineTightened (place j losses n waiting es ls) (shelf_place j losses n waiting es ks)
  unfolding place shelf_place
  place_tightened losses zero waiting es ls ks s r c = tt
  place_tightened losses (suc n) waiting es ls ks s r c = by (free_tasks j es waiting) refl (place_tightened losses n)
    where
      by : (fs : List Waiting) → free_tasks j es waiting ≡ fs
          → ((waiting : List Waiting) (es ls ks : List Outcome) → Settled j es → Pairwise Sooner ls ks → Come ks
          → Pairwise LineTightened (place j losses n waiting es ls) (shelf_place j losses n waiting es ks))
          → Pairwise LineTightened (place j losses (suc n) waiting es ls) (shelf_place j losses (suc n) waiting es ks)
      by [] f rest = rw (f, place, shelf_place) tt
      by (w ∷ ws) f rest =
          let t = critical_task j es w ws in
          let ps = chosen j (losses + 1) (trial j es t) in
          let cs = placements_of j t ps in
          let e = walk j least [] es cs in
          let x = walk j largest [] ls cs in
          let y = shelf_walk j largest [] ks cs in
          let late : Pairwise Sooner x y = walk_sooner j ls ks cs r in
          let come : Come y = shelf_comes j ks cs c in
          let on : (b : Placement) → In b cs → b.processor < j.processors =
          λ b i. let (p, k, q) = in_map (placement_of j t) b ps i in rw (← q) (chosen_below j (trial j es t) (losses + 1) p k) in
          rw (f, place, shelf_place) (rw (← trial_all es t s, ← walk_all l j facts [] es cs s on) (
            (refl, replicas_tightened e x y late come),
            rest (keep (λ w. not (eqb w.task t)) waiting) (reverse_aux e es) (reverse_aux x ls) (reverse_aux y ks)
                (settled_walk j least [] es cs s) (pairs_reverse Sooner x y ls ks late r) (λ d i. ⊎_elim (come d) (c d) (in_reverse d y ks i)),
          ))

  -- Lines that differ in late ticks have the same replicas.
  same_placements : (ns ms : List Line) → Pairwise LineTightened ns ms → placements j ns ≡ placements j ms
  unfolding placements
  same_placements [] [] r = refl
  same_placements [] (m ∷ ms) r = absurd r
  same_placements (n ∷ ns) [] r = absurd r
  same_placements (n ∷ ns) (m ∷ ms) ((t, q), rs) = rw (t, same_processors n.replicas m.replicas q, same_placements ns ms rs)
    where
      same_processors : (rs ss : List Replica) → Pairwise Tightened rs ss → map (λ r. r.processor) rs ≡ map (λ r. r.processor) ss
      same_processors [] [] r = refl
      same_processors [] (s ∷ ss) r = absurd r
      same_processors (r ∷ rs) [] q = absurd q
      same_processors (r ∷ rs) (s ∷ ss) (q, qs) = rw (q.0, same_processors rs ss qs)

  -- Of lines in order: early ticks, M* and every replay are the same; no late tick is later, nor is M.
  module _ (ns : List Line) (o : Ordered j [] ns) where
    abbrev cs : List Placement
    cs = placements j ns

    processors_known : (c : Placement) → In c cs → c.processor < j.processors
    processors_known c i =
        let (n, k, f) = placements_in_lem j ns c i in
        let (before, g, _) = line_facts j [] ns o n k in
        g.processors_below c.processor f.on_processor_lem

    pub replays_all : (stops : List Stop) → replay j stops ns ≡ shelf_walk j least stops [] cs
    unfolding replay
    replays_all stops = walk_all l j facts stops [] cs (λ d i. absurd i) processors_known

    pub earlies_all : earlies j ns ≡ shelf_walk j least [] [] cs
    unfolding earlies
    earlies_all = walk_all l j facts [] [] cs (λ d i. absurd i) processors_known

    pub lower_all : lower_bound j ns ≡ makespan j least (shelf_walk j least [] [] cs)
    unfolding lower_bound
    lower_all = ap (makespan j least) earlies_all

    pub lates_sooner : Pairwise Sooner (lates j ns) (shelf_walk j largest [] [] cs)
    unfolding lates
    lates_sooner = walk_sooner j [] [] cs tt

    pub upper_sooner : NoLater (upper_bound j ns) (makespan j largest (shelf_walk j largest [] [] cs))
    unfolding upper_bound
    upper_sooner = makespan_sooner j (lates j ns) (shelf_walk j largest [] [] cs) lates_sooner

  -- The planner's plan is the one on the shelf, drawn up anew.
  pub plan_redrawn : Redrawn (plan_for j j.losses) (shelf_plan j j.losses)
  unfolding plan_for shelf_plan makespan
  plan_redrawn =
      let ns = (plan_for j j.losses).lines in
      let ms = (shelf_plan j j.losses).lines in
      let lines : Pairwise LineTightened ns ms = place_tightened j.losses j.tasks (waiting_from 0 (bottom_levels j)) [] [] [] (λ d i. absurd i) tt (λ d i. absurd i) in
      let o = placed_ordered l j facts in
      let old = shelf_walk j largest [] [] (placements j ns) in
      let come : Come old = shelf_comes j [] (placements j ns) (λ d i. absurd i) in
      let ends = largest_comes (λ t. largest (times (of_task t old))) (exits j) λ t i.
      largest_comes (λ (d : Outcome). d.time) (of_task t old) (λ d k. come d (in_task t d old k).0) in
      rw (← same_placements ns ms lines) (lines, ap tick_of (lower_all ns o), tick_most (upper_bound j ns) (makespan j largest old) (upper_sooner ns o) ends)
