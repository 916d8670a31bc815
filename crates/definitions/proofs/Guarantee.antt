-- An accepted plan keeps its promise under every stop list of at most ε lines.
use Rattle.std.specs.Prelude.{if◌then◌else◌}
use mathlib.Core.Path.{◌≡◌, refl, ap, ap₂, sym, ◌∙◌}
use mathlib.Core.Logic.{◌⊎◌, inl, inr, ⊎_elim}
use mathlib.Core.List.{List, [], ◌∷◌, ◌++◌, map}
use mathlib.Core.Bool.{Bool, true, false, not, ◌||◌, true≢false}
use Prim.Native.Nat.{ℕ, ◌+◌, ◌<◌, ◌≤◌}
use native.Mathlib.Omega.{arith}
use lib.Dec.{eqb}
use lib.ListN.{length, length-map}
use borrow.Author.Tests.{eqb-true, eq-eqb, not-false}
use Rattle.definitions.specs.Lists.{In, keep, any, has, distinct, below, empty, some_or, last_of}
use Rattle.definitions.specs.Limits.{Limits}
use Rattle.definitions.specs.Text.{first_of}
use Rattle.definitions.specs.Job.{Edge, Job, incoming, outgoing}
use Rattle.definitions.specs.Plan.{Replica, Line, Plan, processors_of, line_tasks}
use Rattle.definitions.specs.Stops.{Stop}
use Rattle.definitions.specs.Times.{Time, tick, never, later, sooner, after, same, least, largest, Placement, Outcome, outcome, of_task, on_processor, times, ready, message, feeding, arrival, data_ready, start, stop_time, unless_stopped, finish, walk, placements_of, placements, earlies, lates, exits, makespan, lower_bound, upper_bound, placement_of}
use Rattle.definitions.specs.Refusals.{doubled_tasks, same_times, ticks_agree, bounds_agree, plan_refusal}
use Rattle.definitions.specs.Replay.{replay, first_finish, replay_makespan}
use Rattle.definitions.proofs.Lists.{both, both_true, passed, in_some, append_left, append_right, map_in, in_any, in_keep, keep_in, keep_none, has_not, in_below, spare, full}
use Rattle.definitions.specs.Facts.{Ordered, Apart, PlanFacts}
use Rattle.definitions.proofs.Tasks.{line_facts}
use Rattle.definitions.proofs.Ready.{first_ready_lem}
use Rattle.definitions.proofs.Feeding.{last_cases}
use Rattle.definitions.proofs.Stopping.{stopped}

-- Between early and late --------------------------------------------------------------------------------------

-- A finish under stops is between the early and the late one, or never; if it is sure, it is not never.
pub data Between : (sure : Bool) → Time → Time → Time → Type 0 where
  undone : {e : Time} {l : ℕ} → Between false e (tick l) never
  within : {sure : Bool} {e l f : ℕ} → (e ≤ f) × (f ≤ l) → Between sure (tick e) (tick l) (tick f)

done : {s : Bool} {e l f : ℕ} → (e ≤ f) × (f ≤ l) → Between s (tick e) (tick l) (tick f)
done = within

later_between : {s : Bool} {e l f e' l' f' : Time} → Between s e l f → Between s e' l' f' → Between s (later e e') (later l l') (later f f')
later_between undone undone = undone
later_between undone (within b) = undone
later_between (within a) undone = undone
later_between (within a) (within b) = done (omega arith)

sooner_between : {s s' : Bool} {e l f e' l' f' : Time} → Between s e l f → Between s' e' l' f' → Between (s || s') (sooner e e') (later l l') (sooner f f')
sooner_between undone undone = undone
sooner_between (undone {e = never}) (within b) = done (omega arith)
sooner_between (undone {e = tick x}) (within b) = done (omega arith)
sooner_between (within a) (undone {e = never}) = done (omega arith)
sooner_between (within a) (undone {e = tick x}) = done (omega arith)
sooner_between (within a) (within b) = done (omega arith)

after_between : {s : Bool} (n : ℕ) {e l f : Time} → Between s e l f → Between s (after n e) (after n l) (after n f)
after_between n undone = undone
after_between n (within a) = done (omega arith)

-- What is less sure.
sure_between : {s : Bool} (s' : Bool) {e l f : Time} → (s' ≡ true → s ≡ true) → Between s e l f → Between s' e l f
sure_between true h undone = absurd (true≢false (sym (h refl)))
sure_between false h undone = undone
sure_between s' h (within a) = within a

abbrev pub is_never : Time → Bool
is_never never = true
is_never (tick x) = false

stopped_between : (s : Time) {e l f : Time} → Between (is_never s) e l f → Between (is_never s) e l (unless_stopped s f)
stopped_between never b = b
stopped_between (tick s) undone = undone
stopped_between (tick s) (within {f = f} a) = ⊎_elim (λ q. rw q (within a)) (λ q. rw q undone) (stopped (tick s) (tick f))

-- The largest over any list.
largest_between : {A : Type 0} (s : Bool) (x y z : A → Time) (g : List A) → ((a : A) → In a g → Between s (x a) (y a) (z a))
    → Between s (largest (map x g)) (largest (map y g)) (largest (map z g))
unfolding largest
largest_between s x y z [] h = done (omega arith)
largest_between s x y z (a ∷ g) h = later_between (h a (inl refl)) (largest_between s x y z g (λ b i. h b (inr i)))

-- What keeps times between, on each processor.
abbrev Steady : (ℕ → Time → Time) → Type 0
Steady w = (q : ℕ) (s : Bool) (e l f : Time) → Between s e l f → Between s (w q e) (w q l) (w q f)

module _ (j : Job) (stops : List Stop) where
  -- Processor p does not stop.
  abbrev pub free : ℕ → Bool
  free p = is_never (stop_time stops p)

  -- Outcomes of the same replicas by the early, the late and the replay's equations, side by side.
  pub data Beside : List Placement → List Outcome → List Outcome → List Outcome → Type 0 where
    none : Beside [] [] [] []
    next : {c : Placement} {e l f : Time} {cs : List Placement} {es ls fs : List Outcome} → Between (free c.processor) e l f → Beside cs es ls fs
        → Beside (c ∷ cs) (outcome c e ∷ es) (outcome c l ∷ ls) (outcome c f ∷ fs)

  -- Of those whose task and processor pass a test; of the replicas of task t.
  keep_between : (f : ℕ → ℕ → Bool) {cs : List Placement} {es ls fs : List Outcome} → Beside cs es ls fs
      → Beside (keep (λ c. f c.task c.processor) cs) (keep (λ d. f d.task d.processor) es)
      (keep (λ d. f d.task d.processor) ls)
      (keep (λ d. f d.task d.processor) fs)
  unfolding keep
  keep_between f none = none
  keep_between f (next {c = c} {e = x} {l = y} {f = z} b r) = by (f c.task c.processor) (keep_between f r)
    where
      by : (a : Bool) {cs : List Placement} {es ls fs : List Outcome} → Beside cs es ls fs
          → Beside (if a then c ∷ cs else cs) (if a then outcome c x ∷ es else es) (if a then outcome c y ∷ ls else ls) (if a then outcome c z ∷ fs else fs)
      by true r = next b r
      by false r = r

  task_between : (t : ℕ) {cs : List Placement} {es ls fs : List Outcome} → Beside cs es ls fs
      → Beside (keep (λ c. eqb c.task t) cs) (of_task t es) (of_task t ls) (of_task t fs)
  unfolding of_task
  task_between t b = keep_between (λ u q. eqb u t) b

  -- The least early, the largest late and the least finish, each as w makes it on its processor; sure if one of them is.
  least_between : (w : ℕ → Time → Time) → Steady w → {cs : List Placement} {es ls fs : List Outcome} → Beside cs es ls fs
      → Between (any (λ c. free c.processor) cs) (least (map (λ d. w d.processor d.time) es))
      (largest (map (λ d. w d.processor d.time) ls))
      (least (map (λ d. w d.processor d.time) fs))
  unfolding any least largest
  least_between w h none = undone
  least_between w h (next {c = c} b r) = sooner_between (h c.processor _ _ _ _ b) (least_between w h r)

  ready_between : (p : ℕ) {cs : List Placement} {es ls fs : List Outcome} → Beside cs es ls fs → Between (free p) (ready j p es) (ready j p ls) (ready j p fs)
  unfolding ready
  ready_between p none = rw (first_ready_lem j p) (done (omega arith))
  ready_between p (next {c = c} {e = e} {l = l} {f = f} b r) = by (eqb c.processor p) refl (ready_between p r)
    where
      by : (a : Bool) → eqb c.processor p ≡ a → {e' l' f' : Time} → Between (free p) e' l' f'
          → Between (free p) (if a then e else e') (if a then l else l') (if a then f else f')
      by true q r = let i : c.processor ≡ p = eqb-true c.processor p q in rw i at b
      by false q r = r

  -- Task t has a replica on a processor that does not stop.
  abbrev pub Safe : ℕ → List Placement → Type 0
  Safe t cs = (c : Placement) × In c cs × (c.task ≡ t) × (free c.processor ≡ true)

  safe_free : (t : ℕ) (cs : List Placement) → Safe t cs → any (λ c. free c.processor) (keep (λ c. eqb c.task t) cs) ≡ true
  safe_free t cs (c, i, e, f) = in_any (λ c. free c.processor) c _ (keep_in (λ c. eqb c.task t) c cs i (eq-eqb c.task t e)) f

  -- The first of two if it has a member, else the second; the last members alone.
  some_between : {bs cs : List Placement} {es ls fs es' ls' fs' : List Outcome} → Beside bs es ls fs → Beside cs es' ls' fs'
      → Beside (some_or bs cs) (some_or es es') (some_or ls ls') (some_or fs fs')
  some_between none r = r
  some_between (next b q) r = next b q

  last_between : {cs : List Placement} {es ls fs : List Outcome} → Beside cs es ls fs → Beside (last_of cs) (last_of es) (last_of ls) (last_of fs)
  unfolding last_of
  last_between none = none
  last_between (next b r) = some_between (last_between r) (next b none)

  -- The replicas of a safe task that feed p; if p does not stop, one of them is on a processor that does not.
  feeding_between : (t p : ℕ) {cs : List Placement} {es ls fs : List Outcome} → Beside cs es ls fs → Safe t cs
      → (ds : List Placement) × Beside ds (feeding j t p es) (feeding j t p ls) (feeding j t p fs)
      × (free p ≡ true → any (λ c. free c.processor) ds ≡ true)
  unfolding feeding on_processor
  feeding_between t p {cs = cs} b s =
      let all = keep (λ c. eqb c.task t) cs in
      let own = keep (λ c. eqb c.processor p) all in
      let r = task_between t b in (
        some_or (last_of own) all,
        some_between (last_between (keep_between (λ u q. eqb q p) r)) r,
        λ h. ⊎_elim
            (λ e. rw e (safe_free t cs s))
            (λ (l : (c : Placement) × In c own × (last_of own ≡ c ∷ [])).
            let on : l.0.processor ≡ p = eqb-true l.0.processor p (in_keep (λ c. eqb c.processor p) l.0 all l.1).1 in
            rw l.2 (in_any (λ c. free c.processor) l.0 (l.0 ∷ []) (inl refl) (rw on h)))
            (last_cases own),
      )

  arrival_between : (p : ℕ) (e : Edge) {cs : List Placement} {es ls fs : List Outcome} → Beside cs es ls fs → Safe e.from cs
      → Between (free p) (arrival j least es p e) (arrival j largest ls p e) (arrival j least fs p e)
  unfolding arrival
  arrival_between p e b s =
      let (ds, r, h) = feeding_between e.from p b s in
      sure_between (free p) h (least_between (λ q. after (message j e q p)) (λ q s x y z. after_between (message j e q p)) r)

  -- Every predecessor of t is safe.
  abbrev PredecessorsSafe : ℕ → List Placement → Type 0
  PredecessorsSafe t cs = (e : Edge) → In e (incoming j t) → Safe e.from cs

  finish_between : (c : Placement) {cs : List Placement} {es ls fs : List Outcome} → Beside cs es ls fs → PredecessorsSafe c.task cs
      → Between (free c.processor) (finish j least [] es c) (finish j largest [] ls c) (finish j least stops fs c)
  unfolding finish start data_ready stop_time
  finish_between c {es = es} {ls = ls} {fs = fs} b h =
      let p = c.processor in
      stopped_between (stop_time stops p) (after_between c.run (later_between (ready_between p b)
      (largest_between (free p) (arrival j least es p) (arrival j largest ls p) (arrival j least fs p) (incoming j c.task) (λ e i. arrival_between p e b (h e i)))))

  -- The predecessors of each replica are among those before it, after those that are placed.
  abbrev pub Supplied : List Placement → List Placement → Type 0
  Supplied placed [] = Unit {0}
  Supplied placed (c ∷ cs) = PredecessorsSafe c.task placed × Supplied (c ∷ placed) cs

  pub walk_between : (cs : List Placement) {placed : List Placement} {es ls fs : List Outcome} → Supplied placed cs → Beside placed es ls fs
      → Beside cs (walk j least [] es cs) (walk j largest [] ls cs) (walk j least stops fs cs)
  unfolding walk
  walk_between [] s b = none
  walk_between (c ∷ cs) (s, ss) b = let x = finish_between c b s in next x (walk_between cs ss (next x b))

  first_between : (t : ℕ) {cs : List Placement} {es ls fs : List Outcome} → Beside cs es ls fs → Safe t cs
      → Between true (least (times (of_task t es))) (largest (times (of_task t ls))) (least (times (of_task t fs)))
  first_between t {cs = cs} b s = sure_between true (λ _. safe_free t cs s) (least_between (λ q x. x) (λ q s x y z r. r) (task_between t b))

  -- Every task is safe: the ends of the round.
  makespan_between : {cs : List Placement} {es ls fs : List Outcome} → Beside cs es ls fs → ((t : ℕ) → t < j.tasks → Safe t cs)
      → Between true (makespan j least es) (makespan j largest ls) (makespan j least fs)
  unfolding makespan exits
  makespan_between {es = es} {ls = ls} {fs = fs} b h =
      largest_between true (λ t. least (times (of_task t es))) (λ t. largest (times (of_task t ls))) (λ t. least (times (of_task t fs)))
      (exits j) (λ t i. first_between t b (h t (in_below j.tasks t (in_keep (λ t. empty (outgoing j t)) t (below j.tasks) i).0)))

  -- Every task has a replica on a processor that does not stop -----------------------------------------------------

  -- Each line has a processor that does not stop.
  abbrev pub Spared : List Line → Type 0
  Spared ns = (n : Line) → In n ns → (p : ℕ) × In p (processors_of n) × (free p ≡ true)

  safe_more : (t : ℕ) (cs ds : List Placement) → ((c : Placement) → In c cs → In c ds) → Safe t cs → Safe t ds
  safe_more t cs ds h (c, i, e, f) = (c, h c i, e, f)

  safe_line : (t p : ℕ) (ps : List ℕ) → In p ps → free p ≡ true → Safe t (placements_of j t ps)
  safe_line t p ps i f = (placement_of j t p, map_in (placement_of j t) p ps i, refl, f)

  -- The replicas of one line; then those of the lines after it, with the line's replicas among what is placed.
  supply_line : (t : ℕ) (ps : List ℕ) (placed rest : List Placement) → PredecessorsSafe t placed
      → ((qs : List Placement) → ((c : Placement) → In c placed → In c qs) → ((c : Placement) → In c (placements_of j t ps) → In c qs) → Supplied qs rest)
      → Supplied placed (placements_of j t ps ++ rest)
  supply_line t [] placed rest h k = k placed (λ c i. i) (λ c i. absurd i)
  supply_line t (p ∷ ps) placed rest h k =
      let c = placement_of j t p in (
        h,
        supply_line t ps (c ∷ placed) rest (λ e i. safe_more e.from placed (c ∷ placed) (λ x. inr) (h e i))
            (λ qs old new. k qs (λ x i. old x (inr i)) (λ x. ⊎_elim (λ q. old x (inl q)) (new x))),
      )

  -- Lines in order, each with a processor that does not stop, supply their replicas.
  pub supply : (ns : List Line) (seen : List ℕ) (placed : List Placement) → Ordered j seen ns → Spared ns
      → ((u : ℕ) → In u seen → Safe u placed) → Supplied placed (placements j ns)
  unfolding placements
  supply [] seen placed o s k = tt
  supply (n ∷ ns) seen placed (o, os) s k =
      let (p, i, f) = s n (inl refl) in
      supply_line n.task (processors_of n) placed (placements j ns) (λ e i. k e.from (o.predecessors e i))
      (λ qs old new. supply ns (n.task ∷ seen) qs os (λ m i. s m (inr i))
      (λ u. ⊎_elim
      (λ e. safe_more u (placements_of j u (processors_of n)) qs (rw e at new) (safe_line u p (processors_of n) i f))
      (λ i. safe_more u placed qs old (k u i))))

  safe_lines : (ns : List Line) → Spared ns → (t : ℕ) → In t (line_tasks ns) → Safe t (placements j ns)
  unfolding placements
  safe_lines [] s t x'' = elim x'' [ ]
  safe_lines (n ∷ ns) s t (inl e) =
      let (p, i, f) = s n (inl refl) in
      let ps = processors_of n in
      let cs = placements_of j n.task ps in
      rw (← e) (safe_more n.task cs (cs ++ placements j ns) (λ c. append_left c cs (placements j ns)) (safe_line n.task p ps i f))
  safe_lines (n ∷ ns) s t (inr i) =
      let cs = placements_of j n.task (processors_of n) in
      safe_more t (placements j ns) (cs ++ placements j ns) (λ c. append_right c cs (placements j ns)) (safe_lines ns (λ m i. s m (inr i)) t i)

-- A processor without a stop in the list does not stop.
pub not_stopped : (j : Job) (p : ℕ) (stops : List Stop) → has p (map (λ s. s.processor) stops) ≡ false → free j stops p ≡ true
unfolding any stop_time
not_stopped j p [] h = refl
not_stopped j p (s ∷ stops) h = by (eqb s.processor p) h (not_stopped j p stops)
  where
    by : (b : Bool) → (b || has p (map (λ s. s.processor) stops)) ≡ false → (has p (map (λ s. s.processor) stops) ≡ false → free j stops p ≡ true)
        → is_never (if b then tick s.tick else stop_time stops p) ≡ true
    by true h r = sym h
    by false h r = r h

-- Lines in order, as many as there are tasks, have every task.
every_task : (j : Job) (ns : List Line) (seen : List ℕ) → Ordered j seen ns → distinct seen ≡ true → ((u : ℕ) → In u seen → u < j.tasks)
    → length seen + length ns ≡ j.tasks → (t : ℕ) → t < j.tasks → In t seen ⊎ In t (line_tasks ns)
unfolding distinct
every_task j [] seen o d b l t h = inl (full j.tasks seen d b (omega arith) t h)
every_task j (n ∷ ns) seen (o, os) d b l t h =
    let new : has n.task seen ≡ false = has_not n.task seen o.new in
    let r = every_task j ns (n.task ∷ seen) os (rw new d) (λ u. ⊎_elim (λ e. rw (← e) o.task_below) (b u)) (omega arith) t h in
    ⊎_elim (⊎_elim (λ e. inr (inl e)) inl) (λ i. inr (inr i)) r

pub each_task : (j : Job) (ns : List Line) → Ordered j [] ns → length ns ≡ j.tasks → (t : ℕ) → t < j.tasks → In t (line_tasks ns)
unfolding distinct
each_task j ns o c t h = ⊎_elim (λ i. absurd i) (λ i. i) (every_task j ns [] o refl (λ u i. absurd i) (omega (arith, c)) t h)

-- What an accepted plan is ------------------------------------------------------------------------------------

pub none_kept : {A B : Type 0} (f : A → B) (g : A → Bool) (xs : List A) → empty (map f (keep g xs)) ≡ true → (x : A) → In x xs → g x ≡ false
none_kept f g xs h x i = by (g x) refl
  where
    by : (b : Bool) → g x ≡ b → g x ≡ false
    by true e = absurd (true≢false (sym h ∙ in_some (f x) (map f (keep g xs)) (map_in f x (keep g xs) (keep_in g x xs i e))))
    by false e = e

-- The tests for the same time and the same times.
same_time : (x y : Time) → same x y ≡ true → x ≡ y
same_time (tick x) (tick y) h = ap tick (eqb-true x y h)
same_time (tick x) never h = absurd (true≢false (sym h))
same_time never (tick y) h = absurd (true≢false (sym h))
same_time never never h = refl

pub same_times_lem : (xs ys : List Time) → same_times xs ys ≡ true → xs ≡ ys
unfolding same_times
same_times_lem [] [] h = refl
same_times_lem [] (y ∷ ys) h = absurd (true≢false (sym h))
same_times_lem (x ∷ xs) [] h = absurd (true≢false (sym h))
same_times_lem (x ∷ xs) (y ∷ ys) h =
    let (p, q) = both (same x y) (same_times xs ys) h in
    ap₂ ◌∷◌ (same_time x y p) (same_times_lem xs ys q)

pub time_same : (x : Time) → same x x ≡ true
time_same (tick x) = eq-eqb x x refl
time_same never = refl

pub times_same : (xs : List Time) → same_times xs xs ≡ true
unfolding same_times
times_same [] = refl
times_same (x ∷ xs) = both_true (time_same x) (times_same xs)

-- A plan with no number due: no line has a processor twice, its ticks are the equations', and so are M* and M.
pub record AcceptedFacts (j : Job) (p : Plan) : Type 0 where
  pub apart : Apart p.lines
  pub ticks : ticks_agree j p.lines ≡ true
  pub lower_bound : lower_bound j p.lines ≡ tick p.lower
  pub upper_bound : upper_bound j p.lines ≡ tick p.upper

pub accepted_facts : (j : Job) (p : Plan) → plan_refusal j p ≡ 0 → AcceptedFacts j p
unfolding plan_refusal doubled_tasks bounds_agree
accepted_facts j p h =
    let (a, h1) = passed (not (empty (doubled_tasks p.lines))) 11 _ h in
    let (b, h2) = passed (not (ticks_agree j p.lines)) 12 _ h1 in
    let (c, h3) = passed (not (bounds_agree j p)) 13 _ h2 in
    let (e, f) = both (same (lower_bound j p.lines) (tick p.lower)) _ (not-false _ c) in
    record {
      apart = λ n i. not-false _ (none_kept (λ n. n.task) (λ n. not (distinct (processors_of n))) p.lines (not-false _ a) n i);
      ticks = not-false _ b;
      lower_bound = same_time _ _ e;
      upper_bound = same_time _ _ f;
    }

pub facts_accepted : (j : Job) (p : Plan) → AcceptedFacts j p → plan_refusal j p ≡ 0
unfolding plan_refusal first_of doubled_tasks bounds_agree
facts_accepted j p f =
    let apart = keep_none (λ n. not (distinct (processors_of n))) p.lines (λ n i. ap not (f.apart n i)) in
    rw (apart, f.ticks, f.lower_bound, f.upper_bound, time_same (tick p.lower), time_same (tick p.upper))

-- The guarantee -----------------------------------------------------------------------------------------------

-- Lines in order, one for each task, each with a processor that does not stop: the outcomes side by side, and every task safe.
lines_between : (j : Job) (stops : List Stop) (ns : List Line) → Ordered j [] ns → length ns ≡ j.tasks → Spared j stops ns
    → Beside j stops (placements j ns) (earlies j ns) (lates j ns) (replay j stops ns) × ((t : ℕ) → t < j.tasks → Safe j stops t (placements j ns))
unfolding earlies lates replay
lines_between j stops ns o c s = (
  walk_between j stops (placements j ns) (supply j stops ns [] [] o s (λ u i. absurd i)) none,
  λ t h. safe_lines j stops ns s t (each_task j ns o c t h),
)

-- Fewer stops than replicas of a task: each line has a processor that does not stop.
few_stops : (j : Job) (stops : List Stop) (ns : List Line) → Ordered j [] ns
    → Apart ns → length stops ≤ j.losses → Spared j stops ns
few_stops j stops ns o d few n i =
    let (before, f, _) = line_facts j [] ns o n i in
    let w : length (map (λ s. s.processor) stops) < length (processors_of n) =
    omega (arith, length-map stops (λ s. s.processor), length-map n.replicas (λ r. r.processor), f.width) in
    let (p, k, e) = spare (processors_of n) (map (λ s. s.processor) stops) (d n i) w in
    (p, k, not_stopped j p stops e)

value_between : {e l : ℕ} {f : Time} → Between true (tick e) (tick l) f → (x : ℕ) × (f ≡ tick x) × (e ≤ x) × (x ≤ l)
value_between (within {f = x} (a, b)) = (x, refl, a, b)

-- What is sure comes, by all three equations.
comes_between : {e l f : Time} → Between true e l f
    → (x : ℕ) × (y : ℕ) × (z : ℕ) × (e ≡ tick x) × (l ≡ tick y) × (f ≡ tick z) × (x ≤ z) × (z ≤ y)
comes_between (within {e = e} {l = l} {f = f} (a, b)) = (e, l, f, refl, refl, refl, a, b)

-- An accepted plan, and no more stops than the job bears: every task has a first finish, and the round ends between M* and M.
pub kept : (l : Limits) (j : Job) (p : Plan) (stops : List Stop) → PlanFacts l j p → plan_refusal j p ≡ 0 → length stops ≤ j.losses
    → ((t : ℕ) → t < j.tasks → (x : ℕ) × (first_finish t (replay j stops p.lines) ≡ tick x))
    × ((x : ℕ) × (replay_makespan j (replay j stops p.lines) ≡ tick x) × (p.lower ≤ x) × (x ≤ p.upper))
unfolding first_finish replay_makespan lower_bound upper_bound
kept l j p stops g h few =
    let a = accepted_facts j p h in
    let (b, s) = lines_between j stops p.lines g.ordered g.count (few_stops j stops p.lines g.ordered a.apart few) in
    (λ t i. let r = comes_between (first_between j stops t b (s t i)) in (r.2, r.5), value_between (rw (a.lower_bound, a.upper_bound) at (makespan_between j stops b s)))

-- With no stop it ends at M*.
pub quiet : (j : Job) (p : Plan) → plan_refusal j p ≡ 0 → replay_makespan j (replay j [] p.lines) ≡ tick p.lower
unfolding replay_makespan replay lower_bound earlies
quiet j p h = (accepted_facts j p h).lower_bound

-- Without stops -----------------------------------------------------------------------------------------------

-- Each of the outcomes is a tick.
abbrev pub Come : List Outcome → Type 0
Come ds = (d : Outcome) → In d ds → (x : ℕ) × (d.time ≡ tick x)

come_between : {j : Job} {cs : List Placement} {es ls fs : List Outcome} → Beside j [] cs es ls fs → Come es × Come ls
unfolding stop_time
come_between none = (λ d i. absurd i, λ d i. absurd i)
come_between (next b r) =
    let c = comes_between b in
    let (es, ls) = come_between r in
    (λ d. ⊎_elim (λ q. (c.0, ap (λ d. d.time) (sym q) ∙ c.3)) (es d), λ d. ⊎_elim (λ q. (c.1, ap (λ d. d.time) (sym q) ∙ c.4)) (ls d))

-- A line has a replica, so it has a processor that does not stop.
no_stops : (j : Job) (ns : List Line) → Ordered j [] ns → Spared j [] ns
unfolding stop_time
no_stops j ns o n i = let (before, f, _) = line_facts j [] ns o n i in by n.replicas f.width
  where
    by : (rs : List Replica) → length rs ≡ j.losses + 1 → (p : ℕ) × In p (map (λ r. r.processor) rs) × (true ≡ true)
    by [] h = absurd (omega arith)
    by (r ∷ rs) h = (r.processor, inl refl, refl)

-- Lines in order, one for each task: every replica finishes at a tick, early and late, and M* and M are ticks.
pub all_come : (j : Job) (ns : List Line) → Ordered j [] ns → length ns ≡ j.tasks
    → Come (earlies j ns) × Come (lates j ns) × ((x : ℕ) × (lower_bound j ns ≡ tick x)) × ((x : ℕ) × (upper_bound j ns ≡ tick x))
unfolding lower_bound upper_bound
all_come j ns o c =
    let (b, s) = lines_between j [] ns o c (no_stops j ns o) in
    let (es, ls) = come_between b in
    let c = comes_between (makespan_between j [] b s) in
    (es, ls, (c.0, c.3), (c.1, c.4))
