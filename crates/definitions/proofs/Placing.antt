-- The planner's plan has every task once, after its predecessors, on ε + 1 different processors, with the equations' ticks.
use Rattle.std.specs.Prelude.{if◌then◌else◌}
use mathlib.Core.Path.{◌≡◌, refl, ap, ap₂, ◌∙◌, sym}
use mathlib.Core.Logic.{◌⊎◌, inl, inr, ⊎_elim}
use mathlib.Core.List.{List, [], ◌∷◌, ◌++◌, map, map-append, map-map, reverse_aux}
use mathlib.Core.Bool.{Bool, true, false, not}
use Prim.Native.Nat.{ℕ, zero, suc, ◌+◌, ◌<◌}
use native.Mathlib.Omega.{arith}
use lib.Dec.{eqb, ltb}
use lib.ListN.{length, length-map}
use borrow.Author.Tests.{eqb-true, eqb-false, not-true}
use Rattle.definitions.specs.Lists.{In, keep, all, has, distinct, count_from, below}
use Rattle.definitions.specs.Limits.{Limits}
use Rattle.definitions.specs.Text.{first_of}
use Rattle.definitions.specs.Job.{Edge, Job, incoming}
use Rattle.definitions.specs.Plan.{Replica, Line, Plan, processors_of, descends}
use Rattle.definitions.specs.Times.{Time, tick, least, largest, Placement, Outcome, outcome, times, finish, walk, placements_of, placements, earlies, lates}
use Rattle.definitions.specs.Refusals.{doubled_tasks, replicas_of, same_times, ticks_agree, bounds_agree, plan_refusal}
use Rattle.definitions.specs.Planner.{tick_of, greatest_of, Waiting, waiting_from, bottom_levels, free_tasks, ranked, critical_task, trial, chosen, replicas, place, plan_for}
use Rattle.definitions.proofs.Lists.{both_true, in_map, map_in, in_reverse, reverse_left, reverse_right, map_same, in_keep, keep_in, map_keep, all_in, in_all, has_in, in_has, without, one_less, distinct_keep, length_count, in_below, below_in, distinct_count}
use Rattle.definitions.specs.Facts.{JobFacts, PredecessorsIn, LineFacts, Ordered}
use Rattle.definitions.proofs.Tasks.{in_incoming, outcome_tasks}
use Rattle.definitions.proofs.Circle.{free_task}
use Rattle.definitions.proofs.BottomLevels.{length_bottom_levels}
use Rattle.definitions.proofs.Guarantee.{time_same, times_same, Come, all_come}
use Rattle.definitions.proofs.Chosen.{chosen_count, chosen_below, chosen_distinct, chosen_ascends}

-- Lists -------------------------------------------------------------------------------------------------------

map_reverse_in : {A : Type 0} (f : A → ℕ) (u : ℕ) (xs ys : List A) → In u (map f (reverse_aux xs ys)) → In u (map f xs) ⊎ In u (map f ys)
map_reverse_in f u xs ys i =
    let (x, k, e) = in_map f u (reverse_aux xs ys) i in
    ⊎_elim (λ m. inl (rw e at (map_in f x xs m))) (λ m. inr (rw e at (map_in f x ys m))) (in_reverse x xs ys k)

map_reverse_left : {A : Type 0} (f : A → ℕ) (u : ℕ) (xs ys : List A) → In u (map f xs) → In u (map f (reverse_aux xs ys))
map_reverse_left f u xs ys i = let (x, k, e) = in_map f u xs i in rw e at (map_in f x (reverse_aux xs ys) (reverse_left x xs ys k))

map_reverse_right : {A : Type 0} (f : A → ℕ) (u : ℕ) (xs ys : List A) → In u (map f ys) → In u (map f (reverse_aux xs ys))
map_reverse_right f u xs ys i = let (x, k, e) = in_map f u ys i in rw e at (map_in f x (reverse_aux xs ys) (reverse_right x xs ys k))

-- The critical task is one of the free tasks ------------------------------------------------------------------

pub greatest_in : (x : ℕ × ℕ) (ys : List (ℕ × ℕ)) → In (greatest_of x ys) (map (λ y. y.0) (x ∷ ys))
unfolding greatest_of
greatest_in x [] = inl refl
greatest_in x (y ∷ ys) = by (ltb x.1 y.1) (greatest_in y ys) (greatest_in x ys)
  where
    by : (b : Bool) → In (greatest_of y ys) (map (λ z. z.0) (y ∷ ys)) → In (greatest_of x ys) (map (λ z. z.0) (x ∷ ys))
        → In (greatest_of (if b then y else x) ys) (map (λ z. z.0) (x ∷ y ∷ ys))
    by true i k = inr i
    by false i (inl e) = inl e
    by false i (inr k) = inr (inr k)

-- The tasks that wait at first --------------------------------------------------------------------------------

abbrev waiting_tasks : List Waiting → List ℕ
waiting_tasks ws = map (λ w. w.task) ws

waiting_tasks_lem : (k : ℕ) (xs : List ℕ) → waiting_tasks (waiting_from k xs) ≡ count_from k (length xs)
unfolding waiting_from count_from
waiting_tasks_lem k [] = refl
waiting_tasks_lem k (x ∷ xs) = ap {B = List ℕ} (λ r. k ∷ r) (waiting_tasks_lem (suc k) xs)

-- A line as the planner writes it -----------------------------------------------------------------------------

-- The ticks of some outcomes, as they are written.
abbrev ticks : List Outcome → List ℕ
ticks ds = map (λ d. tick_of d.time) ds

ticks_read : (es ls : List Outcome) → length es ≡ length ls → (map (λ r. r.early) (replicas es ls) ≡ ticks es) × (map (λ r. r.late) (replicas es ls) ≡ ticks ls)
unfolding replicas
ticks_read [] [] h = (refl, refl)
ticks_read [] (x ∷ ls) h = absurd (omega arith)
ticks_read (e ∷ es) [] h = absurd (omega arith)
ticks_read (e ∷ es) (x ∷ ls) h = let (a, b) = ticks_read es ls (omega arith) in (ap₂ ◌∷◌ refl a, ap₂ ◌∷◌ refl b)

module _ (j : Job) where
  abbrev walked : (List Time → Time) → ℕ → List ℕ → List Outcome → List Outcome
  walked choose t ps ds = walk j choose [] ds (placements_of j t ps)

  abbrev line_for : ℕ → List ℕ → List Outcome → List Outcome → Line
  line_for t ps es ls = record { task = t; replicas = replicas (walked least t ps es) (walked largest t ps ls) }

  -- The processors of the line are those that were chosen.
  processors_read : (t : ℕ) (ps : List ℕ) (es ls : List Outcome) → processors_of (line_for t ps es ls) ≡ ps
  unfolding walk replicas
  processors_read t [] es ls = refl
  processors_read t (p ∷ ps) es ls = ap {B = List ℕ} (λ r. p ∷ r) (processors_read t ps _ _)

  walked_length : (choose : List Time → Time) (t : ℕ) (ps : List ℕ) (ds : List Outcome) → length (walked choose t ps ds) ≡ length ps
  unfolding walk
  walked_length choose t [] ds = refl
  walked_length choose t (p ∷ ps) ds = ap suc (walked_length choose t ps _)

  -- A walk over some replicas and then over others.
  walk_append : (choose : List Time → Time) (ds : List Outcome) (bs cs : List Placement)
      → walk j choose [] ds (bs ++ cs) ≡ walk j choose [] ds bs ++ walk j choose [] (reverse_aux (walk j choose [] ds bs) ds) cs
  unfolding walk
  walk_append choose ds [] cs = refl
  walk_append choose ds (b ∷ bs) cs =
      let o = outcome b (finish j choose [] ds b) in
      ap {B = List Outcome} (λ r. o ∷ r) (walk_append choose (o ∷ ds) bs cs)

  -- Each outcome of the walk over a task's replicas is one of the task, and where there is a replica there is one.
  walked_tasks : (choose : List Time → Time) (t : ℕ) (ps : List ℕ) (ds : List Outcome) (u : ℕ) → In u (outcome_tasks (walked choose t ps ds)) → t ≡ u
  unfolding walk
  walked_tasks choose t [] ds u x' = elim x' [ ]
  walked_tasks choose t (p ∷ ps) ds u (inl e) = e
  walked_tasks choose t (p ∷ ps) ds u (inr i) = walked_tasks choose t ps _ u i

  tasks_walked : (choose : List Time → Time) (t : ℕ) (ps : List ℕ) (ds : List Outcome) → 0 < length ps → In t (outcome_tasks (walked choose t ps ds))
  unfolding walk
  tasks_walked choose t [] ds h = absurd (omega arith)
  tasks_walked choose t (p ∷ ps) ds h = inl refl

  -- The written ticks of lines are the equations', after what is placed.
  abbrev Agree : (List Time → Time) → (Replica → ℕ) → List Outcome → List Line → Type 0
  Agree choose written ds ns = map written (replicas_of ns) ≡ ticks (walk j choose [] ds (placements j ns))

  agree_more : (choose : List Time → Time) (written : Replica → ℕ) (ds : List Outcome) (n : Line) (ns : List Line) (ps : List ℕ) → processors_of n ≡ ps
      → map written n.replicas ≡ ticks (walked choose n.task ps ds)
      → Agree choose written (reverse_aux (walked choose n.task ps ds) ds) ns → Agree choose written ds (n ∷ ns)
  unfolding replicas_of placements
  agree_more choose written ds n ns ps e h g =
      let first = walked choose n.task ps ds in
      let rest = walk j choose [] (reverse_aux first ds) (placements j ns) in
      rw (
        e,
        walk_append choose ds (placements_of j n.task ps) (placements j ns),
        map-append (λ d. tick_of d.time) first rest,
        map-append written n.replicas (replicas_of ns),
        h,
        g,
      )

  apart_more : (n : Line) (ns : List Line) → distinct (processors_of n) ≡ true → doubled_tasks ns ≡ [] → doubled_tasks (n ∷ ns) ≡ []
  unfolding doubled_tasks keep
  apart_more n ns d h = rw d h

  -- The state of the planner --------------------------------------------------------------------------------

  -- n tasks wait, those in us; those in seen are placed, with the early outcomes es.
  record Stands (n : ℕ) (seen us : List ℕ) (es : List Outcome) : Type 0 where
    count : length us ≡ n
    apart : distinct us ≡ true
    low : (u : ℕ) → In u us → u < j.tasks
    new : (u : ℕ) → In u us → In u seen → ⊥
    every : (u : ℕ) → u < j.tasks → In u seen ⊎ In u us
    seen_placed : (u : ℕ) → In u seen → In u (outcome_tasks es)
    placed_seen : (u : ℕ) → In u (outcome_tasks es) → In u seen

  -- What is known of the lines that the planner writes from there on; ls are the late outcomes.
  record Placed (n : ℕ) (seen : List ℕ) (es ls : List Outcome) (ns : List Line) : Type 0 where
    count : length ns ≡ n
    ordered : Ordered j seen ns
    apart : doubled_tasks ns ≡ []
    early_agrees : Agree least (λ r. r.early) es ns
    late_agrees : Agree largest (λ r. r.late) ls ns

  -- The state after a line more.
  next : (n : ℕ) (seen us : List ℕ) (es : List Outcome) (t : ℕ) (ps : List ℕ) → Stands (suc n) seen us es → In t us → 0 < length ps
      → Stands n (t ∷ seen) (without t us) (reverse_aux (walked least t ps es) es)
  next n seen us es t ps s i k =
      let other : ℕ → Bool = λ u. not (eqb u t) in
      let new-ones = walked least t ps es in
      record {
        count = omega (arith, one_less t us s.apart i, s.count);
        apart = distinct_keep other us s.apart;
        low = λ u m. s.low u (in_keep other u us m).0;
        new = λ u m. let (a, b) = in_keep other u us m in ⊎_elim (λ e. eqb-false u t (not-true (eqb u t) b) (sym e)) (s.new u a);
        every = λ u l. ⊎_elim (λ m. inl (inr m)) (λ m. still u (eqb u t) refl m) (s.every u l);
        seen_placed = λ u.
            ⊎_elim
            (λ e. map_reverse_left (λ d. d.task) u new-ones es (rw (← e) (tasks_walked least t ps es k)))
            (λ m. map_reverse_right (λ d. d.task) u new-ones es (s.seen_placed u m));
        placed_seen = λ u m. ⊎_elim (λ a. inl (walked_tasks least t ps es u a)) (λ a. inr (s.placed_seen u a)) (map_reverse_in (λ d. d.task) u new-ones es m);
      }
    where
      still : (u : ℕ) (b : Bool) → eqb u t ≡ b → In u us → ((t ≡ u) ⊎ In u seen) ⊎ In u (without t us)
      still u true e m = inl (inl (sym (eqb-true u t e)))
      still u false e m = inr (keep_in (λ u. not (eqb u t)) u us m (ap not e))

  written_line : (seen : List ℕ) (t : ℕ) (ps : List ℕ) (es ls : List Outcome) → t < j.tasks → (In t seen → ⊥) → PredecessorsIn j t seen
      → length ps ≡ j.losses + 1 → ((p : ℕ) → In p ps → p < j.processors) → descends ps ≡ false → LineFacts j seen (line_for t ps es ls)
  written_line seen t ps es ls low new f width below ascends =
      let n = line_for t ps es ls in
      let read = processors_read t ps es ls in
      record {
        task_below = low;
        width = sym (length-map n.replicas (λ r. r.processor)) ∙ ap length read ∙ width;
        processors_below = λ p i. below p (rw read at i);
        ascends = rw read ascends;
        new = new;
        predecessors = f;
      }

  -- One line more, and the lines after it.
  line_more : (n : ℕ) (seen us : List ℕ) (es ls : List Outcome) (t : ℕ) (ps : List ℕ) (ns : List Line)
      → Stands (suc n) seen us es → In t us → PredecessorsIn j t seen
      → length ps ≡ j.losses + 1 → ((p : ℕ) → In p ps → p < j.processors) → descends ps ≡ false → distinct ps ≡ true
      → Placed n (t ∷ seen) (reverse_aux (walked least t ps es) es) (reverse_aux (walked largest t ps ls) ls) ns
      → Placed (suc n) seen es ls (line_for t ps es ls ∷ ns)
  line_more n seen us es ls t ps ns s i f width low ascends apart r =
      let n₁ = line_for t ps es ls in
      let read = processors_read t ps es ls in
      let early = walked least t ps es in
      let late = walked largest t ps ls in
      let level = walked_length least t ps es ∙ sym (walked_length largest t ps ls) in
      record {
        count = ap suc r.count;
        ordered = (written_line seen t ps es ls (s.low t i) (s.new t i) f width low ascends, r.ordered);
        apart = apart_more n₁ ns (rw read apart) r.apart;
        early_agrees = agree_more least (λ r. r.early) es n₁ ns ps read (ticks_read early late level).0 r.early_agrees;
        late_agrees = agree_more largest (λ r. r.late) ls n₁ ns ps read (ticks_read early late level).1 r.late_agrees;
      }

  placed_none : (seen : List ℕ) (es ls : List Outcome) → Placed 0 seen es ls []
  unfolding placements replicas_of walk doubled_tasks keep
  placed_none seen es ls = record { count = refl; ordered = tt; apart = refl; early_agrees = refl; late_agrees = refl }

  -- A free task, and a critical one ---------------------------------------------------------------------------

  abbrev is_free : List Outcome → Waiting → Bool
  is_free es w = all (λ e. has e.from (outcome_tasks es)) (incoming j w.task)

  -- What is free waits, and its predecessors are placed.
  free_waits : (es : List Outcome) (waiting : List Waiting) (w : Waiting) → In w (free_tasks j es waiting)
      → In w.task (waiting_tasks waiting) × PredecessorsIn j w.task (outcome_tasks es)
  unfolding free_tasks
  free_waits es waiting w i =
      let (a, b) = in_keep (is_free es) w waiting i in
      (map_in (λ w. w.task) w waiting a, λ e k. has_in e.from (outcome_tasks es) (all_in (λ e. has e.from (outcome_tasks es)) e (incoming j w.task) b k))

  waits_free : (es : List Outcome) (waiting : List Waiting) (w : Waiting) → In w waiting → PredecessorsIn j w.task (outcome_tasks es) → In w (free_tasks j es waiting)
  unfolding free_tasks
  waits_free es waiting w i f =
      keep_in (is_free es) w waiting i (in_all (λ e. has e.from (outcome_tasks es)) (incoming j w.task) (λ e k. in_has e.from (outcome_tasks es) (f e k)))

  critical_waits : (es : List Outcome) (waiting : List Waiting) (w : Waiting) (ws : List Waiting) → free_tasks j es waiting ≡ w ∷ ws
      → In (critical_task j es w ws) (waiting_tasks waiting) × PredecessorsIn j (critical_task j es w ws) (outcome_tasks es)
  unfolding critical_task ranked
  critical_waits es waiting w ws e =
      let t = critical_task j es w ws in
      let (y, k, q) = in_map (λ y. y.0) t (map (ranked j es) (w ∷ ws)) (greatest_in (ranked j es w) (map (ranked j es) ws)) in
      let (v, m, r) = in_map (ranked j es) y (w ∷ ws) k in
      let named : v.task ≡ t = ap (λ y. y.0) r ∙ q in
      rw named at (free_waits es waiting v (rw e m))

  place_next : (n : ℕ) (waiting : List Waiting) (es ls : List Outcome) (w : Waiting) (ws : List Waiting) → free_tasks j es waiting ≡ w ∷ ws
      → let t = critical_task j es w ws in
      let ps = chosen j (j.losses + 1) (trial j es t) in
      place j j.losses (suc n) waiting es ls
      ≡ line_for t ps es ls
      ∷ place j j.losses n (keep (λ w. not (eqb w.task t)) waiting) (reverse_aux (walked least t ps es) es) (reverse_aux (walked largest t ps ls) ls)
  unfolding place
  place_next n waiting es ls w ws e = rw (e, place)

module _ (l : Limits) (j : Job) (facts : JobFacts l j) where
  -- A task that no waiting task precedes has its predecessors placed; and there is one.
  all_placed : (n : ℕ) (seen us : List ℕ) (es : List Outcome) → Stands j n seen us es
      → (t : ℕ) → ((e : Edge) → In e (incoming j t) → In e.from us → ⊥) → PredecessorsIn j t (outcome_tasks es)
  all_placed n seen us es s t h e i =
      ⊎_elim (s.seen_placed e.from) (λ k. absurd (h e i k)) (s.every e.from (facts.from_task e (in_incoming j t e i).0))

  some_free : (n : ℕ) (seen : List ℕ) (waiting : List Waiting) (es : List Outcome) → Stands j (suc n) seen (waiting_tasks waiting) es
      → (w : Waiting) × In w (free_tasks j es waiting)
  some_free n seen waiting es s =
      let us = waiting_tasks waiting in
      let (u, i) = first us s.count in
      let (t, k, h) = free_task j facts.no_circle us s.low u i in
      let (w, m, q) = in_map (λ w. w.task) t waiting k in
      (w, waits_free j es waiting w m (rw q (all_placed (suc n) seen us es s t h)))
    where
      first : (us : List ℕ) → length us ≡ suc n → (u : ℕ) × In u us
      first [] h = absurd (omega arith)
      first (u ∷ us) h = (u, inl refl)

  -- The planner's task and processors, where a task is free.
  step : (n : ℕ) (seen us : List ℕ) (es ls : List Outcome) (t : ℕ) (finishes : List ℕ) (ns : List Line) → Stands j (suc n) seen us es → In t us → PredecessorsIn j t (outcome_tasks es)
      → let ps = chosen j (j.losses + 1) finishes in
      (Stands j n (t ∷ seen) (without t us) (reverse_aux (walked j least t ps es) es)
      → Placed j n (t ∷ seen) (reverse_aux (walked j least t ps es) es) (reverse_aux (walked j largest t ps ls) ls) ns)
      → Placed j (suc n) seen es ls (line_for j t ps es ls ∷ ns)
  step n seen us es ls t finishes ns s i f r =
      let k = j.losses + 1 in
      let ps = chosen j k finishes in
      let width = chosen_count j finishes k facts.enough in
      line_more j n seen us es ls t ps ns s i (λ e a. s.placed_seen e.from (f e a)) width (chosen_below j finishes k) (chosen_ascends j finishes k) (chosen_distinct j finishes k)
      (r (next j n seen us es t ps s i (omega arith)))

  -- The lines that the planner writes from a state on.
  placed : (n : ℕ) (seen : List ℕ) (waiting : List Waiting) (es ls : List Outcome) → Stands j n seen (waiting_tasks waiting) es
      → Placed j n seen es ls (place j j.losses n waiting es ls)
  unfolding place
  placed zero seen waiting es ls s = placed_none j seen es ls
  placed (suc n) seen waiting es ls s = by (free_tasks j es waiting) refl (placed n)
    where
      by : (fs : List Waiting) → free_tasks j es waiting ≡ fs
          → ((seen : List ℕ) (waiting : List Waiting) (es ls : List Outcome) → Stands j n seen (waiting_tasks waiting) es
          → Placed j n seen es ls (place j j.losses n waiting es ls))
          → Placed j (suc n) seen es ls (place j j.losses (suc n) waiting es ls)
      by [] e r = let (w, i) = some_free n seen waiting es s in let k : In w [] = rw e at i in absurd k
      by (w ∷ ws) e r =
          let t = critical_task j es w ws in
          let finishes = trial j es t in
          let ps = chosen j (j.losses + 1) finishes in
          let (i, f) = critical_waits j es waiting w ws e in
          let left = keep (λ w. not (eqb w.task t)) waiting in
          let still : waiting_tasks left ≡ without t (waiting_tasks waiting) = map_keep (λ w. w.task) (λ u. not (eqb u t)) waiting in
          let es₁ = reverse_aux (walked j least t ps es) es in
          let ls₁ = reverse_aux (walked j largest t ps ls) ls in
          rw (place_next j n waiting es ls w ws e)
          (step n seen (waiting_tasks waiting) es ls t finishes (place j j.losses n left es₁ ls₁) s i f (λ g. r (t ∷ seen) left es₁ ls₁ (rw still g)))

  -- At first every task waits.
  outset : Stands j j.tasks [] (waiting_tasks (waiting_from 0 (bottom_levels j))) []
  outset =
      let named : waiting_tasks (waiting_from 0 (bottom_levels j)) ≡ below j.tasks = waiting_tasks_lem 0 (bottom_levels j) ∙ ap (λ n. below n) (length_bottom_levels l j facts) in
      rw named
      (record {
        count = length_count 0 j.tasks;
        apart = distinct_count 0 j.tasks;
        low = in_below j.tasks;
        new = λ u i k. k;
        every = λ u h. inr (below_in j.tasks u h);
        seen_placed = λ u i. i;
        placed_seen = λ u i. i;
      })

  -- The planner's plan ----------------------------------------------------------------------------------------

  abbrev own : Plan
  own = plan_for j j.losses

  whole_plan : Placed j j.tasks [] [] [] own.lines
  unfolding plan_for
  whole_plan = placed j.tasks [] (waiting_from 0 (bottom_levels j)) [] [] outset

  pub placed_count : length (plan_for j j.losses).lines ≡ j.tasks
  placed_count = whole_plan.count

  pub placed_ordered : Ordered j [] (plan_for j j.losses).lines
  placed_ordered = whole_plan.ordered

  pub placed_apart : doubled_tasks (plan_for j j.losses).lines ≡ []
  placed_apart = whole_plan.apart

  -- Ticks that are the equations' agree with them, where every replica finishes.
  agrees : (written : Replica → ℕ) (rs : List Replica) (ds : List Outcome) → map written rs ≡ ticks ds → Come ds
      → same_times (times ds) (map (λ r. tick (written r)) rs) ≡ true
  agrees written rs ds e h =
      let same : map (λ r. tick (written r)) rs ≡ times ds =
      sym (map-map tick written rs) ∙ ap (map tick) e ∙ map-map tick (λ d. tick_of d.time) ds
      ∙ map_same (λ d. tick (tick_of d.time)) (λ d. d.time) ds (λ d i. let (x, q) = h d i in rw q) in
      rw same (times_same (times ds))

  pub placed_agrees : ticks_agree j (plan_for j j.losses).lines ≡ true
  unfolding ticks_agree earlies lates
  placed_agrees =
      let (es, ls, b, w) = all_come j own.lines placed_ordered placed_count in
      both_true (agrees (λ r. r.early) (replicas_of own.lines) (earlies j own.lines) whole_plan.early_agrees es)
      (agrees (λ r. r.late) (replicas_of own.lines) (lates j own.lines) whole_plan.late_agrees ls)

  pub placed_bounds : bounds_agree j (plan_for j j.losses) ≡ true
  unfolding bounds_agree plan_for
  placed_bounds =
      let (es, ls, (x, b), (y, w)) = all_come j own.lines placed_ordered placed_count in
      rw (b, w) (both_true (time_same (tick x)) (time_same (tick y)))

  pub placed_accepted : plan_refusal j (plan_for j j.losses) ≡ 0
  unfolding plan_refusal first_of
  placed_accepted = rw (placed_apart, placed_agrees, placed_bounds)
