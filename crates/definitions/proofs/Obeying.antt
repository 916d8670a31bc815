-- A plan that was read is accepted exactly if it obeys the equations over the ticks that it writes.
use mathlib.Core.Path.{◌≡◌, refl, ap, ◌∙◌, sym}
use mathlib.Core.Logic.{inl, inr, ⊎_elim}
use mathlib.Core.List.{List, [], ◌∷◌, ◌++◌, map, map-append, map-map, append-nil, append_assoc, reverse, reverse_aux}
use mathlib.Core.Bool.{true, false}
use Prim.Native.Nat.{ℕ, ◌<◌}
use native.Mathlib.Omega.{arith}
use lib.ListN.{length, length-map}
use borrow.Author.Tests.{ne_eqb}
use Rattle.definitions.specs.Lists.{In, keep, distinct, below}
use Rattle.definitions.specs.Job.{Edge, Job, incoming}
use Rattle.definitions.specs.Plan.{Replica, Line, Plan, processors_of, line_tasks, descends}
use Rattle.definitions.specs.Times.{Time, tick, least, largest, Placement, Outcome, outcome, of_task, times, ready, feeding, arrival, data_ready, start, stop_time, finish, walk, placements_of, placements, earlies, lates, makespan, lower_bound, upper_bound, placement_of}
use Rattle.definitions.specs.Obeys.{written_outcome, written, Rising, equation, LineObeys, Obeys}
use Rattle.definitions.specs.Refusals.{replicas_of, same_times, ticks_agree, plan_refusal}
use Rattle.definitions.proofs.Lists.{both, both_true, in_map, map_same, apart_head, head_apart, fits, length_count, in_below, below_in, distinct_count}
use Rattle.definitions.specs.Facts.{LineFacts, Ordered, Apart}
use Rattle.definitions.proofs.Tasks.{SameTasks, tasks_more, line_facts}
use Rattle.definitions.proofs.Doubled.{rising}
use Rattle.definitions.proofs.Chosen.{ascends_cons}
use Rattle.definitions.proofs.Guarantee.{same_times_lem, each_task, times_same, accepted_facts, facts_accepted}

-- Lines and those before them ---------------------------------------------------------------------------------

-- P is true of each line and the lines before it, after those in `before`.
abbrev pub Each : (List Line → Line → Type 0) → List Line → List Line → Type 0
Each P before [] = Unit {0}
Each P before (n ∷ ns) = P before n × Each P (before ++ n ∷ []) ns

each_at : (P : List Line → Line → Type 0) (before front rest : List Line) (n : Line) → Each P before (front ++ n ∷ rest) → P (before ++ front) n
each_at P before [] rest n (a, e) = rw (append-nil before) a
each_at P before (m ∷ front) rest n (a, e) = rw append_assoc at (each_at P (before ++ m ∷ []) front rest n e)

at_each : (P : List Line → Line → Type 0) (before ns : List Line)
    → ((front rest : List Line) (n : Line) → ns ≡ front ++ n ∷ rest → P (before ++ front) n) → Each P before ns
at_each P before [] h = tt
at_each P before (n ∷ ns) h = (
  rw (append-nil before) at (h [] ns n refl),
  at_each P (before ++ n ∷ []) ns (λ front rest m q. rw (append_assoc before (n ∷ []) front) (h (n ∷ front) rest m (ap (n ∷◌) q))),
)

-- A replica of the same line does not count ---------------------------------------------------------------------

module _ (j : Job) (choose : List Time → Time) (d : Outcome) (placed : List Outcome) where
  ready_passes : (p : ℕ) → (d.processor ≡ p → ⊥) → ready j p (d ∷ placed) ≡ ready j p placed
  unfolding ready
  ready_passes p h = rw (ne_eqb d.processor p h)

  feeding_passes : (t p : ℕ) → (d.task ≡ t → ⊥) → feeding j t p (d ∷ placed) ≡ feeding j t p placed
  unfolding feeding of_task keep
  feeding_passes t p h = rw (ne_eqb d.task t h)

  data_passes : (t p : ℕ) → ((e : Edge) → In e (incoming j t) → d.task ≡ e.from → ⊥) → data_ready j choose (d ∷ placed) t p ≡ data_ready j choose placed t p
  unfolding data_ready arrival
  data_passes t p h = ap largest (map_same _ _ (incoming j t) (λ e i. rw (feeding_passes e.from p (h e i))))

  -- An outcome on another processor, of no predecessor.
  equation_passes : (t p : ℕ) → (d.processor ≡ p → ⊥) → ((e : Edge) → In e (incoming j t) → d.task ≡ e.from → ⊥)
      → equation j choose (d ∷ placed) t p ≡ equation j choose placed t p
  equation_passes t p h g = rw (ready_passes p h, data_passes t p g)

-- Processors that rise -------------------------------------------------------------------------------------------

rise : (ps : List ℕ) → descends ps ≡ false → distinct ps ≡ true → Rising ps
rise [] h d = tt
rise (p ∷ ps) h d =
    let (f, g) = rising p ps h in
    let (n, d') = apart_head p ps d in
    ((λ q i. let m : p ≡ q → ⊥ = λ e. n (rw e i) in omega (arith, f q i)), rise ps g d')

rise_apart : (ps : List ℕ) → Rising ps → (descends ps ≡ false) × (distinct ps ≡ true)
unfolding descends distinct
rise_apart [] r = (refl, refl)
rise_apart (p ∷ ps) (h, r) =
    let (a, d) = rise_apart ps r in
    (ascends_cons p ps (λ q i. omega (arith, h q i)) a, head_apart p ps (λ i. omega (arith, h p i)) d)

-- A line's ticks --------------------------------------------------------------------------------------------------

module _ (j : Job) (choose : List Time → Time) (which : Replica → ℕ) (t : ℕ) (own : (e : Edge) → In e (incoming j t) → t ≡ e.from → ⊥) where
  -- On each of these processors the equation is the same.
  abbrev Alike : List ℕ → List Outcome → List Outcome → Type 0
  Alike ps ds es = (p : ℕ) → In p ps → equation j choose ds t p ≡ equation j choose es t p

  alike_more : (r : Replica) (ps : List ℕ) (ds es : List Outcome) → distinct (r.processor ∷ ps) ≡ true → Alike (r.processor ∷ ps) ds es
      → Alike ps (written_outcome which t r ∷ ds) es
  alike_more r ps ds es d a p i =
      equation_passes j choose (written_outcome which t r) ds t p (λ e. (apart_head r.processor ps d).0 (rw e i)) own ∙ a p (inr i)

  -- The walk over the line's replicas, and then over others, gives its replicas' ticks exactly if they are the equation's.
  line_ticks_lem : (rs : List Replica) (ds es : List Outcome) (cs : List Placement) (xs : List Time) → distinct (map (λ r. r.processor) rs) ≡ true
      → Alike (map (λ r. r.processor) rs) ds es
      → times (walk j choose [] ds (placements_of j t (map (λ r. r.processor) rs) ++ cs)) ≡ map (λ r. tick (which r)) rs ++ xs
      → ((r : Replica) → In r rs → tick (which r) ≡ equation j choose es t r.processor)
      × (times (walk j choose [] (reverse_aux (map (written_outcome which t) rs) ds) cs) ≡ xs)
  unfolding walk finish start stop_time
  line_ticks_lem [] ds es cs xs d a h = (λ r i. absurd i, h)
  line_ticks_lem (r ∷ rs) ds es cs xs d a h =
      let ps = map (λ r. r.processor) rs in
      let q : equation j choose ds t r.processor ≡ tick (which r) = cc in
      let g : times (walk j choose [] (outcome (placement_of j t r.processor) (equation j choose ds t r.processor) ∷ ds) (placements_of j t ps ++ cs)) ≡ map (λ r. tick (which r)) rs ++ xs = cc in
      let (ticks, others) = line_ticks_lem rs (written_outcome which t r ∷ ds) es cs xs (apart_head r.processor ps d).1 (alike_more r ps ds es d a) (rw q at g) in
      (λ s. ⊎_elim (λ e. rw e at (sym q ∙ a r.processor (inl refl))) (ticks s), others)

  ticks_line : (rs : List Replica) (ds es : List Outcome) (cs : List Placement) (os : List Outcome) → distinct (map (λ r. r.processor) rs) ≡ true
      → Alike (map (λ r. r.processor) rs) ds es
      → ((r : Replica) → In r rs → tick (which r) ≡ equation j choose es t r.processor)
      → walk j choose [] (reverse_aux (map (written_outcome which t) rs) ds) cs ≡ os
      → walk j choose [] ds (placements_of j t (map (λ r. r.processor) rs) ++ cs) ≡ map (written_outcome which t) rs ++ os
  unfolding walk finish start stop_time
  ticks_line [] ds es cs os d a ticks h = h
  ticks_line (r ∷ rs) ds es cs os d a ticks h =
      let ps = map (λ r. r.processor) rs in
      let q : equation j choose ds t r.processor ≡ tick (which r) = a r.processor (inl refl) ∙ sym (ticks r (inl refl)) in
      rw q (ap (written_outcome which t r ∷◌)
      (ticks_line rs (written_outcome which t r ∷ ds) es cs os (apart_head r.processor ps d).1 (alike_more r ps ds es d a) (λ s i. ticks s (inr i)) h))

-- The lines' ticks ------------------------------------------------------------------------------------------------

reverse_append : {A : Type 0} (xs ys zs : List A) → reverse_aux (xs ++ ys) zs ≡ reverse_aux ys (reverse_aux xs zs)
reverse_append [] ys zs = refl
reverse_append (x ∷ xs) ys zs = reverse_append xs ys (x ∷ zs)

module _ (j : Job) (choose : List Time → Time) (which : Replica → ℕ) where
  -- What is written before a line, the newest first.
  abbrev pub placed_by : List Line → List Outcome
  placed_by before = reverse (written which before)

  placed_after_lem : (before : List Line) (n : Line) (ds : List Outcome)
      → reverse_aux (map (written_outcome which n.task) n.replicas) (reverse_aux (written which before) ds) ≡ reverse_aux (written which (before ++ n ∷ [])) ds
  unfolding written
  placed_after_lem [] n ds = rw append-nil
  placed_after_lem (m ∷ before) n ds =
      let now = map (written_outcome which m.task) m.replicas in
      rw (reverse_append now (written which before) ds, reverse_append now (written which (before ++ n ∷ [])) ds) (placed_after_lem before n (reverse_aux now ds))

  pub placed_more : (before : List Line) (n : Line) → reverse_aux (map (written_outcome which n.task) n.replicas) (placed_by before) ≡ placed_by (before ++ n ∷ [])
  placed_more before n = placed_after_lem before n []

  -- The ticks of a line are the equation's.
  abbrev pub TicksObey : List Line → Line → Type 0
  TicksObey before n = (r : Replica) → In r n.replicas → tick (which r) ≡ equation j choose (placed_by before) n.task r.processor

  own_line : (seen : List ℕ) (n : Line) → LineFacts j seen n → (e : Edge) → In e (incoming j n.task) → n.task ≡ e.from → ⊥
  own_line seen n f e i q = f.new (rw q (f.predecessors e i))

  lines_ticks : (before ns : List Line) (seen : List ℕ) → Ordered j seen ns → Apart ns
      → times (walk j choose [] (placed_by before) (placements j ns)) ≡ map (λ r. tick (which r)) (replicas_of ns) → Each TicksObey before ns
  unfolding placements replicas_of
  lines_ticks before [] seen o a h = tt
  lines_ticks before (n ∷ ns) seen (o, os) a h =
      let placed = placed_by before in
      let (ticks, others) = line_ticks_lem j choose which n.task (own_line seen n o) n.replicas placed placed (placements j ns) (map (λ r. tick (which r)) (replicas_of ns))
      (a n (inl refl)) (λ p i. refl) (rw map-append at h) in
      (ticks, lines_ticks (before ++ n ∷ []) ns (n.task ∷ seen) os (λ m i. a m (inr i)) (rw (placed_more before n) at others))

  ticks_lines : (before ns : List Line) (seen : List ℕ) → Ordered j seen ns → Apart ns → Each TicksObey before ns
      → walk j choose [] (placed_by before) (placements j ns) ≡ written which ns
  unfolding placements written walk
  ticks_lines before [] seen o a h = refl
  ticks_lines before (n ∷ ns) seen (o, os) a (ticks, h) =
      let placed = placed_by before in
      ticks_line j choose which n.task (own_line seen n o) n.replicas placed placed (placements j ns) (written which ns) (a n (inl refl)) (λ p i. refl) ticks
      (rw (placed_more before n) (ticks_lines (before ++ n ∷ []) ns (n.task ∷ seen) os (λ m i. a m (inr i)) h))

  -- What is written, in written order.
  written_times : (ns : List Line) → times (written which ns) ≡ map (λ r. tick (which r)) (replicas_of ns)
  unfolding written replicas_of
  written_times [] = refl
  written_times (n ∷ ns) =
      let here = map (written_outcome which n.task) n.replicas in
      rw (map-append (λ d. d.time) here (written which ns), map-append (λ r. tick (which r)) n.replicas (replicas_of ns), map-map, written_times ns)

-- A plan ----------------------------------------------------------------------------------------------------------

module _ (j : Job) where
  abbrev EarliesObey : List Line → Line → Type 0
  EarliesObey = TicksObey j least (λ r. r.early)

  abbrev LatesObey : List Line → Line → Type 0
  LatesObey = TicksObey j largest (λ r. r.late)

  lines_obey : (before ns : List Line) (seen : List ℕ) → SameTasks before seen → Ordered j seen ns → Apart ns → Each EarliesObey before ns → Each LatesObey before ns
      → Each (LineObeys j) before ns
  lines_obey before [] seen same o a es ls = tt
  lines_obey before (n ∷ ns) seen (to, back) (o, os) a (e, es) (l, ls) = (
    record {
      task_known = o.task_below;
      task_once = λ i. o.new (to n.task i);
      after_predecessors = λ d i. back d.from (o.predecessors d i);
      replica_count = o.width;
      processors_known = o.processors_below;
      processors_rise = rise (processors_of n) o.ascends (a n (inl refl));
      early_tick = e;
      late_tick = l;
    },
    lines_obey (before ++ n ∷ []) ns (n.task ∷ seen) (tasks_more before seen n (to, back)) os (λ m i. a m (inr i)) es ls,
  )

  obey_lines : (before ns : List Line) (seen : List ℕ) → SameTasks before seen → Each (LineObeys j) before ns
      → Ordered j seen ns × Apart ns × Each EarliesObey before ns × Each LatesObey before ns
  obey_lines before [] seen same h = (tt, λ n i. absurd i, tt, tt)
  obey_lines before (n ∷ ns) seen (to, back) (h, hs) =
      let (os, a, es, ls) = obey_lines (before ++ n ∷ []) ns (n.task ∷ seen) (tasks_more before seen n (to, back)) hs in
      let (ascends, apart) = rise_apart (processors_of n) h.processors_rise in
      let o : LineFacts j seen n =
      record {
        task_below = h.task_known;
        width = h.replica_count;
        processors_below = h.processors_known;
        ascends = ascends;
        new = λ i. h.task_once (back n.task i);
        predecessors = λ d i. to d.from (h.after_predecessors d i);
      } in
      ((o, os), λ m. ⊎_elim (λ q. rw (← q) apart) (a m), (h.early_tick, es), (h.late_tick, ls))

  -- Lines in order have different tasks of the job.
  tasks_distinct : (ns : List Line) (seen : List ℕ) → Ordered j seen ns → distinct (line_tasks ns) ≡ true
  unfolding distinct
  tasks_distinct [] seen o = refl
  tasks_distinct (n ∷ ns) seen (o, os) =
      head_apart n.task (line_tasks ns)
      (λ i. let (m, k, e) = in_map (λ n. n.task) n.task ns i in let (before, f, g) = line_facts j (n.task ∷ seen) ns os m k in f.new (g m.task (inl (sym e))))
      (tasks_distinct ns (n.task ∷ seen) os)

  tasks_below : (ns : List Line) → Ordered j [] ns → (u : ℕ) → In u (line_tasks ns) → u < j.tasks
  tasks_below ns o u i = let (n, k, e) = in_map (λ n. n.task) u ns i in rw (← e) (line_facts j [] ns o n k).1.task_below

  -- A line for each task: as many lines as tasks.
  line_count_lem : (ns : List Line) → Ordered j [] ns → ((t : ℕ) → t < j.tasks → In t (line_tasks ns)) → length ns ≡ j.tasks
  line_count_lem ns o h =
      let tasks = below j.tasks in
      let few = fits (line_tasks ns) tasks (tasks_distinct ns [] o) (λ u i. below_in j.tasks u (tasks_below ns o u i)) in
      let many = fits tasks (line_tasks ns) (distinct_count 0 j.tasks) (λ u i. h u (in_below j.tasks u i)) in
      omega (arith, length-map ns (λ n. n.task), length_count 0 j.tasks)

  -- The ticks agree exactly if each line's are the equations'; then the walk gives what is written.
  pub agreed : (choose : List Time → Time) (which : Replica → ℕ) (ns : List Line) → Ordered j [] ns → Apart ns
      → same_times (times (walk j choose [] [] (placements j ns))) (map (λ r. tick (which r)) (replicas_of ns)) ≡ true → Each (TicksObey j choose which) [] ns
  unfolding written
  agreed choose which ns o a h = lines_ticks j choose which [] ns [] o a (same_times_lem _ _ h)

  pub obeyed : (choose : List Time → Time) (which : Replica → ℕ) (ns : List Line) → Ordered j [] ns → Apart ns → Each (TicksObey j choose which) [] ns
      → walk j choose [] [] (placements j ns) ≡ written which ns
  unfolding written
  obeyed choose which ns o a h = ticks_lines j choose which [] ns [] o a h

  pub agrees : (choose : List Time → Time) (which : Replica → ℕ) (ns : List Line) → walk j choose [] [] (placements j ns) ≡ written which ns
      → same_times (times (walk j choose [] [] (placements j ns))) (map (λ r. tick (which r)) (replicas_of ns)) ≡ true
  agrees choose which ns h = rw (h, written_times j choose which ns) (times_same (map (λ r. tick (which r)) (replicas_of ns)))

  pub accepted_obeys : (p : Plan) → Ordered j [] p.lines → length p.lines ≡ j.tasks → plan_refusal j p ≡ 0 → Obeys j p
  unfolding ticks_agree lower_bound upper_bound earlies lates
  accepted_obeys p o c h =
      let ns = p.lines in
      let f = accepted_facts j p h in
      let (e, l) = both _ _ f.ticks in
      let es = agreed least (λ r. r.early) ns o f.apart e in
      let ls = agreed largest (λ r. r.late) ns o f.apart l in
      let each = lines_obey [] ns [] (λ t i. i, λ t i. i) o f.apart es ls in
      record {
        every_task = each_task j ns o c;
        every_line = λ before rest n q. each_at (LineObeys j) [] before rest n (rw q at each);
        lower_bound = sym f.lower_bound ∙ ap (makespan j least) (obeyed least (λ r. r.early) ns o f.apart es);
        upper_bound = sym f.upper_bound ∙ ap (makespan j largest) (obeyed largest (λ r. r.late) ns o f.apart ls);
      }

  pub obeys_accepted : (p : Plan) → Obeys j p → Ordered j [] p.lines × (length p.lines ≡ j.tasks) × (plan_refusal j p ≡ 0)
  unfolding ticks_agree lower_bound upper_bound earlies lates
  obeys_accepted p h =
      let ns = p.lines in
      let (o, a, es, ls) = obey_lines [] ns [] (λ t i. i, λ t i. i) (at_each (LineObeys j) [] ns h.every_line) in
      let early : earlies j ns ≡ written (λ r. r.early) ns = obeyed least (λ r. r.early) ns o a es in
      let late : lates j ns ≡ written (λ r. r.late) ns = obeyed largest (λ r. r.late) ns o a ls in (
        o,
        line_count_lem ns o h.every_task,
        facts_accepted j p (record {
          apart = a;
          ticks = both_true (agrees least (λ r. r.early) ns early) (agrees largest (λ r. r.late) ns late);
          lower_bound = ap (makespan j least) early ∙ sym h.lower_bound;
          upper_bound = ap (makespan j largest) late ∙ sym h.upper_bound;
        }),
      )
