-- No tick passes its bound: of the equations, of the replay, and of the planner's levels.
use Rattle.std.specs.Prelude.{if◌then◌else◌}
use mathlib.Core.Path.{◌≡◌, refl, ap, sym}
use mathlib.Core.Logic.{inl, inr, ⊎_elim}
use mathlib.Core.List.{List, [], ◌∷◌, ◌++◌, map}
use mathlib.Core.Bool.{Bool, true, false, not}
use Prim.Native.Nat.{ℕ, zero, suc, ◌+◌, ◌*◌, ◌-◌, ◌<◌, ◌≤◌}
use native.Mathlib.Omega.{arith}
use native.Mathlib.Nat.{suc-mul, one-mul, zero-mul, mul-le-mul, mul-le-mul_left, mul-le-mul_right, mul_assoc, mul-add, mul_left_comm, one-le-mul}
use lib.Dec.{eqb}
use lib.ListN.{length, length-map}
use borrow.Author.Tests.{eqb-true, eq-eqb}
use Rattle.definitions.specs.Lists.{nth, below, In, keep, distinct, same_numbers, sum, greatest}
use Rattle.definitions.specs.Limits.{Limits}
use Rattle.definitions.specs.Job.{Edge, Job, run_time, delay, incoming, outgoing}
use Rattle.definitions.specs.Plan.{Replica, Line, Plan, processors_of}
use Rattle.definitions.specs.Stops.{Stop}
use Rattle.definitions.specs.Times.{Time, tick, never, later, sooner, after, least, largest, Placement, Outcome, outcome, of_task, times, ready, message, feeding, arrival, data_ready, start, stop_time, unless_stopped, finish, walk, placements_of, placements, earlies, lates, exits, makespan, lower_bound, upper_bound, placement_of}
use Rattle.definitions.specs.Refusals.{replicas_of, same_times, ticks_agree, plan_refusal}
use Rattle.definitions.specs.Planner.{tick_of, Waiting, waiting_from, scale, scaled_run, total_delay, scaled_message, raised, settled, bottom_levels, largest_delay, top_level, ranked, trial}
use Rattle.definitions.specs.Replay.{replay}
use Rattle.definitions.specs.Claims.{Within, AllWithin, PlacedWithin, plan_ticks, replay_ticks, PlanWithin}
use Rattle.definitions.proofs.Lists.{both, append_left, append_right, in_map, map_in, in_keep, keep_length, fits, distinct_keep, length_count, in_below, NumbersMost, nth_most, sum_most, greatest_most}
use Rattle.definitions.specs.Facts.{JobFacts, PredecessorsIn, Ordered, Apart}
use Rattle.definitions.proofs.Tasks.{in_incoming, in_outgoing, in_task, line_facts}
use Rattle.definitions.proofs.Ready.{first_ready_lem}
use Rattle.definitions.proofs.Feeding.{in_feeding}
use Rattle.definitions.proofs.Stopping.{stopped}
use Rattle.definitions.proofs.Guarantee.{accepted_facts, same_times_lem}

-- Times -------------------------------------------------------------------------------------------------------

pub weaker : {b c : ℕ} (x : Time) → b ≤ c → Within b x → Within c x
weaker (tick x) h a = omega arith
weaker never h a = tt

-- n ticks after a time; and the time, of that.
after_within : (b n : ℕ) (x : Time) → Within b x → Within (b + n) (after n x)
after_within b n (tick x) a = omega arith
after_within b n never a = tt

before_within : (b n : ℕ) (x : Time) → Within b (after n x) → Within b x
before_within b n (tick x) a = omega arith
before_within b n never a = tt

later_within : (b : ℕ) (x y : Time) → Within b x → Within b y → Within b (later x y)
later_within b (tick x) (tick y) a c = omega arith
later_within b (tick x) never a c = tt
later_within b never y a c = tt

sooner_within : (b : ℕ) (x y : Time) → Within b x → Within b y → Within b (sooner x y)
sooner_within b (tick x) (tick y) a c = omega arith
sooner_within b (tick x) never a c = a
sooner_within b never y a c = c

-- The time that is chosen of several passes no bound of them all.
abbrev pub Bounded : (List Time → Time) → Type 0
Bounded choose = (b : ℕ) (xs : List Time) → ((x : Time) → In x xs → Within b x) → Within b (choose xs)

pub least_within : Bounded least
unfolding least
least_within b [] h = tt
least_within b (x ∷ xs) h = sooner_within b x (least xs) (h x (inl refl)) (least_within b xs (λ y i. h y (inr i)))

pub largest_within : Bounded largest
unfolding largest
largest_within b [] h = omega arith
largest_within b (x ∷ xs) h = later_within b x (largest xs) (h x (inl refl)) (largest_within b xs (λ y i. h y (inr i)))

-- The same, of times that a function gives.
chosen_within : {A : Type 0} (b : ℕ) (choose : List Time → Time) → Bounded choose → (f : A → Time) (xs : List A)
    → ((x : A) → In x xs → Within b (f x)) → Within b (choose (map f xs))
chosen_within b choose k f xs h = k b (map f xs) (λ y i. let (x, m, e) = in_map f y xs i in rw (← e) (h x m))

-- A replica after which n ticks are left: it starts at the later of r and d, and runs u ticks, if it is not stopped.
run_within : (b n u v : ℕ) (r d : Time) → u ≤ v → Within b (after (n + v) r) → Within b (after (n + v) d) → Within b (after n (after u (later r d)))
run_within b n u v (tick r) (tick d) h a c = omega arith
run_within b n u v (tick r) never h a c = tt
run_within b n u v never d h a c = tt

replica_within : (b n u v : ℕ) (s r d : Time) → u ≤ v → Within b (after (n + v) r) → Within b (after (n + v) d)
    → Within b (after n (unless_stopped s (after u (later r d))))
replica_within b n u v s r d h a c = ⊎_elim (λ q. rw q (run_within b n u v r d h a c)) (λ q. rw q tt) (stopped s (after u (later r d)))

-- How often ---------------------------------------------------------------------------------------------------

-- How often p is among processors.
abbrev pub often : ℕ → List ℕ → ℕ
often p ps = length (keep (λ q. eqb q p) ps)

often_here : (p : ℕ) (ps : List ℕ) → often p (p ∷ ps) ≡ suc (often p ps)
unfolding keep
often_here p ps = rw (eq-eqb p p refl)

often_more : (q p : ℕ) (ps : List ℕ) → often q ps ≤ often q (p ∷ ps)
unfolding keep
often_more q p ps = by (eqb p q)
  where
    by : (t : Bool) → often q ps ≤ length (if t then p ∷ keep (λ p. eqb p q) ps else keep (λ p. eqb p q) ps)
    by true = omega arith
    by false = omega arith

-- Among different ones, once at most.
often_distinct : (p : ℕ) (ps : List ℕ) → distinct ps ≡ true → often p ps ≤ 1
often_distinct p ps d =
    let it : ℕ → Bool = λ q. eqb q p in
    fits (keep it ps) (p ∷ []) (distinct_keep it ps d) (λ q i. inl (sym (eqb-true q p (in_keep it q ps i).1)))

-- The walk ----------------------------------------------------------------------------------------------------

-- What is placed is on the job's processors, and no tick of the tasks in `seen` passes b.
abbrev SuppliedWithin : Job → ℕ → List ℕ → List Outcome → Type 0
SuppliedWithin j b seen ds = (d : Outcome) → In d ds → (d.processor < j.processors) × (In d.task seen → Within b d.time)

-- No processor is more than w times in a line of these.
abbrev pub Repeats : ℕ → List Line → Type 0
Repeats w ns = (n : Line) → In n ns → (p : ℕ) → often p (processors_of n) ≤ w

ready_within : (j : Job) (b p : ℕ) (ds : List Outcome) → PlacedWithin j b ds → Within b (ready j p ds)
unfolding ready
ready_within j b p [] h = rw (first_ready_lem j p) (omega arith)
ready_within j b p (d ∷ ds) h = by (eqb d.processor p) (ready_within j b p ds (λ x i. h x (inr i)))
  where
    by : (t : Bool) → Within b (ready j p ds) → Within b (if t then d.time else ready j p ds)
    by true r = (h d (inl refl)).1
    by false r = r

-- The data of replicas, each sent on at w ticks for its processor, of which none passes v.
sent_within : (b v : ℕ) (choose : List Time → Time) → Bounded choose → (w : ℕ → ℕ) (ds : List Outcome)
    → ((d : Outcome) → In d ds → (w d.processor ≤ v) × Within b d.time)
    → Within (b + v) (choose (map (λ d. after (w d.processor) d.time) ds))
sent_within b v choose k w ds h =
    chosen_within (b + v) choose k (λ d. after (w d.processor) d.time) ds λ d m.
    let (u, a) = h d m in
    let n = w d.processor in
    weaker (after n d.time) (omega arith) (after_within b n d.time a)

module _ (l : Limits) (j : Job) (jf : JobFacts l j) (choose : List Time → Time) (k : Bounded choose) where
  -- What a message takes at most.
  abbrev longest : ℕ
  longest = l.volume * l.delay

  arrival_within : (b : ℕ) (seen : List ℕ) (ds : List Outcome) (p : ℕ) (e : Edge) → SuppliedWithin j b seen ds → In e j.edges → In e.from seen
      → p < j.processors → Within (b + longest) (arrival j choose ds p e)
  unfolding arrival
  arrival_within b seen ds p e s i f h =
      sent_within b longest choose k (λ q. message j e q p) (feeding j e.from p ds) λ d m.
      let (o, q) = in_task e.from d ds (in_feeding j e.from p ds d m) in
      let (g, a) = s d o in
      (mul-le-mul (jf.volume_most e i) (jf.delay_most d.processor p g h), a (rw q f))

  data_within : (b : ℕ) (seen : List ℕ) (ds : List Outcome) (t p : ℕ) → SuppliedWithin j b seen ds → PredecessorsIn j t seen
      → p < j.processors → Within (b + longest) (data_ready j choose ds t p)
  unfolding data_ready
  data_within b seen ds t p s f h =
      chosen_within (b + longest) largest largest_within (arrival j choose ds p) (incoming j t)
      (λ e i. arrival_within b seen ds p e s (in_incoming j t e i).0 (f e i) h)

-- A processor's ready tick after one more replica, with the runs that are still to come in the line.
next_ready : (j : Job) (c run q : ℕ) (ps : List ℕ) (ds : List Outcome) (d : Outcome) → Within c (after (often d.processor ps * run) d.time)
    → Within c (after (often q (d.processor ∷ ps) * run) (ready j q ds)) → Within c (after (often q ps * run) (ready j q (d ∷ ds)))
unfolding ready keep
next_ready j c run q ps ds d a h = by (eqb d.processor q) refl h
  where
    by : (t : Bool) → eqb d.processor q ≡ t
        → Within c (after (length (if t then d.processor ∷ keep (λ p. eqb p q) ps else keep (λ p. eqb p q) ps) * run) (ready j q ds))
        → Within c (after (often q ps * run) (if t then d.time else ready j q ds))
    by true e h = rw (eqb-true d.processor q e) at a
    by false e h = h

module _ (l : Limits) (j : Job) (jf : JobFacts l j) (choose : List Time → Time) (k : Bounded choose) (stops : List Stop) where
  -- A replica's finish, with the runs that are still to come on its processor in the line.
  finish_within : (b c n : ℕ) (seen : List ℕ) (ds : List Outcome) (t p : ℕ) → SuppliedWithin j b seen ds
      → PredecessorsIn j t seen → t < j.tasks → p < j.processors
      → b + l.volume * l.delay + (n + l.run_time) ≤ c → Within c (after (n + l.run_time) (ready j p ds))
      → Within c (after n (finish j choose stops ds (placement_of j t p)))
  unfolding finish start
  finish_within b c n seen ds t p s f ht hp h a =
      let there = data_ready j choose ds t p in
      replica_within c n (run_time j t p) l.run_time (stop_time stops p) (ready j p ds) there (jf.run_most t p ht hp) a
      (weaker (after (n + l.run_time) there) h (after_within (b + l.volume * l.delay) (n + l.run_time) there (data_within l j jf choose k b seen ds t p s f hp)))

  -- A replica's finish after what is placed: a run and a message later at most.
  pub finish_most : (b : ℕ) (ds : List Outcome) (t p : ℕ) → t < j.tasks → p < j.processors → PlacedWithin j b ds
      → Within (b + (l.run_time + l.volume * l.delay)) (finish j choose stops ds (placement_of j t p))
  finish_most b ds t p ht hp h =
      let c = b + (l.run_time + l.volume * l.delay) in
      let soon = weaker {c = c} (after (0 + l.run_time) (ready j p ds)) (omega arith) (after_within b (0 + l.run_time) (ready j p ds) (ready_within j b p ds h)) in
      before_within c 0 (finish j choose stops ds (placement_of j t p))
      (finish_within b c 0 (map (λ e. e.from) (incoming j t)) ds t p (λ d i. let (u, v) = h d i in (u, λ _. v)) (λ e i. map_in (λ e. e.from) e (incoming j t) i) ht hp (omega arith) soon)

  -- A line's replicas, with the runs that are still to come, and what follows them.
  line_runs : (b c g : ℕ) (seen : List ℕ) (t : ℕ) → t < j.tasks → (In t seen → ⊥) → PredecessorsIn j t seen
      → c ≤ g → (rest : List Placement) → ((ds : List Outcome) → PlacedWithin j c ds → PlacedWithin j g (walk j choose stops ds rest))
      → (ps : List ℕ) → ((p : ℕ) → In p ps → p < j.processors) → ((p : ℕ) → b + l.volume * l.delay + often p ps * l.run_time ≤ c)
      → (ds : List Outcome) → SuppliedWithin j b seen ds → PlacedWithin j c ds
      → ((p : ℕ) → Within c (after (often p ps * l.run_time) (ready j p ds)))
      → PlacedWithin j g (walk j choose stops ds (placements_of j t ps ++ rest))
  unfolding walk
  line_runs b c g seen t ht new f hg rest go [] below h ds s m r = go ds m
  line_runs b c g seen t ht new f hg rest go (p ∷ ps) below h ds s m r =
      let n = often p ps * l.run_time in
      let hp = below p (inl refl) in
      let e : often p (p ∷ ps) * l.run_time ≡ n + l.run_time = rw (often_here p ps) (suc-mul (often p ps) l.run_time) in
      let x = finish j choose stops ds (placement_of j t p) in
      let a : Within c (after n x) = finish_within b c n seen ds t p s f ht hp (rw e at (h p)) (rw e at (r p)) in
      let d : Outcome = outcome (placement_of j t p) x in
      let y : Within c x = before_within c n x a in
      let after-it = line_runs b c g seen t ht new f hg rest go ps (λ q i. below q (inr i))
      (λ q. let u = mul-le-mul_right l.run_time (often_more q p ps) in omega (arith, h q))
      (d ∷ ds)
      (λ o. ⊎_elim (λ q. rw (← q) (hp, λ i. absurd (new i))) (s o))
      (λ o. ⊎_elim (λ q. rw (← q) (hp, y)) (m o))
      (λ q. next_ready j c l.run_time q ps ds d a (r q)) in
      λ o. ⊎_elim (λ q. rw (← q) (hp, weaker x hg y)) (after-it o)

  -- A line with no processor more than w times adds at most w runs and a message.
  walk_within : (w b : ℕ) (seen : List ℕ) (ns : List Line) → Ordered j seen ns → Repeats w ns → (ds : List Outcome) → PlacedWithin j b ds
      → PlacedWithin j (b + length ns * (w * l.run_time + l.volume * l.delay)) (walk j choose stops ds (placements j ns))
  unfolding walk placements
  walk_within w b seen [] o h ds m = λ d i. absurd i
  walk_within w b seen (n ∷ ns) (o, os) h ds m =
      let s = w * l.run_time + l.volume * l.delay in
      let g = b + suc (length ns) * s in
      let e : b + s + length ns * s ≡ g = omega (arith, suc-mul (length ns) s) in
      let few : (p : ℕ) → often p (processors_of n) * l.run_time ≤ w * l.run_time = λ p. mul-le-mul_right l.run_time (h n (inl refl) p) in
      line_runs b (b + s) g seen n.task o.task_below o.new o.predecessors (omega arith) (placements j ns)
      (λ ds' m'. rw e at (walk_within w (b + s) (n.task ∷ seen) ns os (λ x i. h x (inr i)) ds' m'))
      (processors_of n)
      o.processors_below
      (λ p. omega (arith, few p))
      ds
      (λ d i. let (x, y) = m d i in (x, λ _. y))
      (λ d i. let (x, y) = m d i in (x, weaker d.time (omega arith) y))
      (λ p.
      let more = often p (processors_of n) * l.run_time in
      weaker (after more (ready j p ds)) (omega (arith, few p)) (after_within b more (ready j p ds) (ready_within j b p ds m)))

  -- So do lines from the start.
  pub lines_within : (w : ℕ) (ns : List Line) → Ordered j [] ns → Repeats w ns
      → PlacedWithin j (length ns * (w * l.run_time + l.volume * l.delay)) (walk j choose stops [] (placements j ns))
  lines_within w ns o h =
      let b = length ns * (w * l.run_time + l.volume * l.delay) in
      let e : 0 + b ≡ b = omega arith in
      rw e at (walk_within w 0 [] ns o h [] (λ d i. absurd i))

-- The replay, the early and the late finishes -----------------------------------------------------------------

-- A processor is in a line as often as the line is wide, at most; once at most, where no task has two replicas on it.
repeats_width : (j : Job) (ns : List Line) → Ordered j [] ns → Repeats (j.losses + 1) ns
repeats_width j ns o n i p =
    let (before, f, _) = line_facts j [] ns o n i in
    omega (arith, keep_length (λ q. eqb q p) (processors_of n), length-map n.replicas (λ r. r.processor), f.width)

repeats_apart : (ns : List Line) → Apart ns → Repeats 1 ns
repeats_apart ns h n i p = often_distinct p (processors_of n) (h n i)

-- The ends chosen among such outcomes.
makespan_within : (j : Job) (b : ℕ) (choose : List Time → Time) → Bounded choose → (ds : List Outcome) → AllWithin b ds → Within b (makespan j choose ds)
unfolding makespan
makespan_within j b choose k ds h =
    chosen_within b largest largest_within (λ t. choose (times (of_task t ds))) (exits j)
    (λ t i. chosen_within b choose k (λ d. d.time) (of_task t ds) (λ d i. h d (in_task t d ds i).0))

in_replicas : (n : Line) (r : Replica) (ns : List Line) → In n ns → In r n.replicas → In r (replicas_of ns)
unfolding replicas_of
in_replicas n r [] x'' k = elim x'' [ ]
in_replicas n r (m ∷ ns) (inl e) k = append_left r m.replicas (replicas_of ns) (rw e k)
in_replicas n r (m ∷ ns) (inr i) k = append_right r m.replicas (replicas_of ns) (in_replicas n r ns i k)

-- Ticks that are written as the equations give them pass no bound of the equations'.
written_within : (b : ℕ) (written : Replica → ℕ) (ds : List Outcome) (ns : List Line)
    → same_times (times ds) (map (λ r. tick (written r)) (replicas_of ns)) ≡ true → AllWithin b ds
    → (n : Line) → In n ns → (r : Replica) → In r n.replicas → written r ≤ b
written_within b written ds ns e h n i r k =
    let all = replicas_of ns in
    let here : In (tick (written r)) (times ds) =
    rw (same_times_lem (times ds) (map (λ r. tick (written r)) all) e) (map_in (λ r. tick (written r)) r all (in_replicas n r ns i k)) in
    let (d, m, q) = in_map (λ d. d.time) (tick (written r)) ds here in
    rw q at (h d m)

module _ (l : Limits) (j : Job) (jf : JobFacts l j) where
  -- Lines that have no processor twice: n of them take n runs and n messages at most; so the first bound is not passed.
  pub apart_within : (choose : List Time → Time) → Bounded choose → (ns : List Line) → Ordered j [] ns → Apart ns
      → PlacedWithin j (length ns * (l.run_time + l.volume * l.delay)) (walk j choose [] [] (placements j ns))
  apart_within choose k ns o h = rw (one-mul l.run_time) at (lines_within l j jf choose k [] 1 ns o (repeats_apart ns h))

  pub plan_bound : (n : ℕ) → n ≤ j.tasks → n * (l.run_time + l.volume * l.delay) ≤ plan_ticks l
  plan_bound n h = mul-le-mul_right (l.run_time + l.volume * l.delay) (omega (arith, jf.tasks_most))

  -- No tick of an accepted plan passes it.
  module _ (p : Plan) (o : Ordered j [] p.lines) (c : length p.lines ≡ j.tasks) (h : plan_refusal j p ≡ 0) where
    walk_most : (choose : List Time → Time) → Bounded choose → AllWithin (plan_ticks l) (walk j choose [] [] (placements j p.lines))
    walk_most choose k d i =
        weaker d.time (plan_bound (length p.lines) (omega arith)) (apart_within choose k p.lines o (accepted_facts j p h).apart d i).1

    pub plan_within : PlanWithin l j p
    unfolding earlies lates lower_bound upper_bound ticks_agree
    plan_within =
        let f = accepted_facts j p h in
        let (e, x) = both _ _ f.ticks in
        let es : AllWithin (plan_ticks l) (earlies j p.lines) = walk_most least least_within in
        let ls : AllWithin (plan_ticks l) (lates j p.lines) = walk_most largest largest_within in
        record {
          earlies_most = es;
          lates_most = ls;
          written_most = λ n i r k. (
            written_within (plan_ticks l) (λ r. r.early) (earlies j p.lines) p.lines e es n i r k,
            written_within (plan_ticks l) (λ r. r.late) (lates j p.lines) p.lines x ls n i r k,
          );
          lower_most = rw f.lower_bound at (makespan_within j (plan_ticks l) least least_within (earlies j p.lines) es);
          upper_most = rw f.upper_bound at (makespan_within j (plan_ticks l) largest largest_within (lates j p.lines) ls);
        }

  -- No tick of a replay passes the second.
  pub replay_within : (stops : List Stop) (ns : List Line) → Ordered j [] ns → length ns ≡ j.tasks → AllWithin (replay_ticks l) (replay j stops ns)
  unfolding replay
  replay_within stops ns o c d i =
      let w : (j.losses + 1) * l.run_time ≤ (l.losses + 1) * l.run_time = mul-le-mul_right l.run_time (omega (arith, jf.losses_most)) in
      weaker d.time (mul-le-mul (omega (arith, jf.tasks_most)) (omega arith))
      (lines_within l j jf least least_within stops (j.losses + 1) ns o (repeats_width j ns o) d i).1

-- The planner's levels ----------------------------------------------------------------------------------------

tick_of_most : (b : ℕ) (x : Time) → Within b x → tick_of x ≤ b
tick_of_most b (tick x) h = h
tick_of_most b never h = omega arith

-- What a task adds to a bottom level at most.
abbrev pub level_bound : Limits → Job → ℕ
level_bound l j = j.processors * j.processors * (l.run_time + l.volume * l.delay)

scale_most : (j : Job) → scale j ≤ j.processors * j.processors
scale_most j = by (eqb j.processors 1) refl
  where
    by : (b : Bool) → eqb j.processors 1 ≡ b → (if b then 1 else j.processors * (j.processors - 1)) ≤ j.processors * j.processors
    by true e = let q : j.processors ≡ 1 = eqb-true j.processors 1 e in rw q (omega arith)
    by false e = mul-le-mul_left j.processors (omega arith)

module _ (l : Limits) (j : Job) (jf : JobFacts l j) where
  scaled_run_most : (t : ℕ) → t < j.tasks → scaled_run j t ≤ j.processors * j.processors * l.run_time
  unfolding scaled_run
  scaled_run_most t h = by (eqb j.processors 1) refl
    where
      by : (b : Bool) → eqb j.processors 1 ≡ b
          → (if b then run_time j t 0 else (j.processors - 1) * sum (map (run_time j t) (below j.processors))) ≤ j.processors * j.processors * l.run_time
      by true e =
          let r = jf.run_most t 0 h jf.some_processor in
          let g : 1 * l.run_time ≤ j.processors * j.processors * l.run_time = mul-le-mul_right l.run_time (one-le-mul jf.some_processor jf.some_processor) in
          omega arith
      by false e =
          let r : sum (map (run_time j t) (below j.processors)) ≤ length (below j.processors) * l.run_time =
          sum_most (run_time j t) (below j.processors) (λ p i. jf.run_most t p h (in_below j.processors p i)) in
          let n = length_count 0 j.processors in
          rw mul_assoc (mul-le-mul (omega arith) (rw n at r))

  sent_delay_most : (p : ℕ) → p < j.processors → sum (map (delay j p) (keep (λ q. not (eqb q p)) (below j.processors))) ≤ j.processors * l.delay
  sent_delay_most p h =
      let others = keep (λ q. not (eqb q p)) (below j.processors) in
      let r : sum (map (delay j p) others) ≤ length others * l.delay =
      sum_most (delay j p) others (λ q i. jf.delay_most p q h (in_below j.processors q (in_keep (λ q. not (eqb q p)) q (below j.processors) i).0)) in
      let n = length_count 0 j.processors in
      let w = keep_length (λ q. not (eqb q p)) (below j.processors) in
      let g : length others * l.delay ≤ j.processors * l.delay = mul-le-mul_right l.delay (omega arith) in
      omega arith

  total_delay_most : total_delay j ≤ j.processors * j.processors * l.delay
  unfolding total_delay
  total_delay_most =
      let m = j.processors in
      let r = sum_most (λ p. sum (map (delay j p) (keep (λ q. not (eqb q p)) (below m)))) (below m) (λ p i. sent_delay_most p (in_below m p i)) in
      rw mul_assoc (rw (length_count 0 m) at r)

  message_level : (e : Edge) → In e j.edges → scaled_message j e ≤ j.processors * j.processors * (l.volume * l.delay)
  message_level e i = rw (mul_left_comm (j.processors * j.processors)) (mul-le-mul (jf.volume_most e i) total_delay_most)

  -- One round adds a task's part at most; so n rounds add n times as much.
  successor_most : {b : ℕ} (known : List ℕ) (t : ℕ) → NumbersMost b known
      → greatest (map (λ e. scaled_message j e + nth known e.to) (outgoing j t)) ≤ j.processors * j.processors * (l.volume * l.delay) + b
  successor_most known t h =
      greatest_most (λ e. scaled_message j e + nth known e.to) (outgoing j t) λ e o.
      let m = message_level e (in_outgoing j t e o).0 in
      let k = nth_most known e.to h in
      omega arith

  raised_most : {b : ℕ} (known : List ℕ) → NumbersMost b known → NumbersMost (b + level_bound l j) (raised j known)
  unfolding raised
  raised_most {b} known h x i =
      let (t, o, e) = in_map (λ t. scaled_run j t + greatest (map (λ e. scaled_message j e + nth known e.to) (outgoing j t))) x (below j.tasks) i in
      let r = scaled_run_most t (in_below j.tasks t o) in
      let g = successor_most known t h in
      let d = mul-add (j.processors * j.processors) l.run_time (l.volume * l.delay) in
      rw (← e) (omega arith)

  settled_most : (n : ℕ) {b : ℕ} (known : List ℕ) → NumbersMost b known → NumbersMost (b + n * level_bound l j) (settled j n known)
  unfolding settled
  settled_most zero known h x i = let a = h x i in omega (arith, zero-mul (level_bound l j))
  settled_most (suc n) {b} known h x i = by (same_numbers (raised j known) known) i (settled_most n (raised j known) (raised_most known h) x)
    where
      by : (t : Bool) → In x (if t then known else settled j n (raised j known))
          → (In x (settled j n (raised j known)) → x ≤ b + level_bound l j + n * level_bound l j) → x ≤ b + suc n * level_bound l j
      by true i r = let a = h x i in omega arith
      by false i r = let a = r i in omega (arith, suc-mul n (level_bound l j))

  pub bottom_most : NumbersMost (l.tasks * level_bound l j) (bottom_levels j)
  unfolding bottom_levels
  bottom_most x i =
      let a : x ≤ 0 + j.tasks * level_bound l j = settled_most j.tasks [] (λ y o. absurd o) x i in
      let g : j.tasks * level_bound l j ≤ l.tasks * level_bound l j = mul-le-mul_right (level_bound l j) jf.tasks_most in
      omega arith

  pub largest_delay_most : (p : ℕ) → p < j.processors → largest_delay j p ≤ l.delay
  unfolding largest_delay
  largest_delay_most p h = greatest_most (delay j p) (below j.processors) (λ q i. jf.delay_most p q h (in_below j.processors q i))

  top_most_lem : (b : ℕ) (placed : List Outcome) (t : ℕ) → PlacedWithin j b placed
      → top_level j placed t ≤ (b + l.volume * l.delay) * (j.processors * j.processors)
  unfolding top_level
  top_most_lem b placed t h = mul-le-mul (tick_of_most (b + l.volume * l.delay) (largest (map sent (incoming j t))) all_sent) (scale_most j)
    where
      sent : Edge → Time
      sent e = least (map (λ d. after (e.volume * largest_delay j d.processor) d.time) (of_task e.from placed))

      all_sent : Within (b + l.volume * l.delay) (largest (map sent (incoming j t)))
      all_sent =
          chosen_within (b + l.volume * l.delay) largest largest_within sent (incoming j t) λ e i.
          sent_within b (l.volume * l.delay) least least_within (λ p. e.volume * largest_delay j p) (of_task e.from placed) λ d m.
          let (g, a) = h d (in_task e.from d placed m).0 in
          (mul-le-mul (jf.volume_most e (in_incoming j t e i).0) (largest_delay_most d.processor g), a)

  -- A task's early finishes on all processors.
  pub trial_most : (b : ℕ) (placed : List Outcome) (t : ℕ) → t < j.tasks → PlacedWithin j b placed
      → NumbersMost (b + (l.run_time + l.volume * l.delay)) (trial j placed t)
  unfolding trial
  trial_most b placed t ht h x i =
      let (c, o, e) = in_map (λ c. tick_of (finish j least [] placed c)) x (placements_of j t (below j.processors)) i in
      let (p, q, r) = in_map (placement_of j t) c (below j.processors) o in
      let most = finish_most l j jf least least_within [] b placed t p ht (in_below j.processors p q) h in
      rw (← e, ← r) (tick_of_most (b + (l.run_time + l.volume * l.delay)) (finish j least [] placed (placement_of j t p)) most)

  -- A waiting task's bottom level is one of those given.
  in_waiting : (k : ℕ) (w : Waiting) (xs : List ℕ) → In w (waiting_from k xs) → In w.bottom xs
  unfolding waiting_from
  in_waiting k w [] x' = elim x' [ ]
  in_waiting k w (x ∷ xs) (inl e) = inl (ap (λ w. w.bottom) e)
  in_waiting k w (x ∷ xs) (inr i) = inr (in_waiting (suc k) w xs i)

  -- A task's priority, where no tick of what is placed passes b.
  pub ranked_most : (b : ℕ) (placed : List Outcome) (w : Waiting) → b ≤ plan_ticks l → PlacedWithin j b placed → In w (waiting_from 0 (bottom_levels j))
      → (ranked j placed w).1 ≤ l.processors * l.processors * (2 * plan_ticks l + l.volume * l.delay)
  unfolding ranked
  ranked_most b placed w h m i =
      let own = j.processors * j.processors in
      let most = l.processors * l.processors in
      let v = l.volume * l.delay in
      let few : own ≤ most = mul-le-mul jf.processors_most jf.processors_most in
      let u : b + v ≤ plan_ticks l + v = omega arith in
      let top : (b + v) * own ≤ (plan_ticks l + v) * most = mul-le-mul u few in
      let bottom : l.tasks * (own * (l.run_time + v)) ≤ most * plan_ticks l = rw (mul_left_comm l.tasks own (l.run_time + v)) (mul-le-mul_right (plan_ticks l) few) in
      let two : (plan_ticks l + v) * most + most * plan_ticks l ≡ most * (2 * plan_ticks l + v) = omega arith in
      omega (arith, top_most_lem b placed w.task m, bottom_most w.bottom (in_waiting 0 w (bottom_levels j) i))
