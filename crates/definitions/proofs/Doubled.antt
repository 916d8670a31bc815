-- A task with two replicas on one processor: stopping its processors at tick 0 leaves it undone.
use Rattle.std.specs.Prelude.{if◌then◌else◌}
use mathlib.Core.Path.{◌≡◌, refl, ap, ◌∙◌, sym}
use mathlib.Core.Logic.{◌⊎◌, inl, inr, ⊎_elim}
use mathlib.Core.List.{List, [], ◌∷◌, map}
use mathlib.Core.Bool.{Bool, true, false, not, ◌&&◌, true≢false}
use Prim.Native.Nat.{ℕ, suc, ◌+◌, ◌<◌, ◌≤◌}
use native.Mathlib.Omega.{arith}
use lib.Dec.{ltb, eqb}
use lib.ListN.{length, length-map}
use borrow.Author.Tests.{lt-leb, eqb-false, eq-eqb, ne_eqb, ltb-false, not-true}
use Rattle.definitions.specs.Lists.{In, keep, has, distinct}
use Rattle.definitions.specs.Limits.{Limits}
use Rattle.definitions.specs.Job.{Job, run_time}
use Rattle.definitions.specs.Plan.{Line, Plan, processors_of, descends}
use Rattle.definitions.specs.Stops.{Stop}
use Rattle.definitions.specs.Times.{Time, tick, never, later, after, least, largest, Placement, Outcome, outcome, of_task, times, start, stop_time, unless_stopped, finish, walk, placements_of, placements, exits, makespan, placement_of}
use Rattle.definitions.specs.Refusals.{doubled_tasks}
use Rattle.definitions.specs.Replay.{replay, first_finish, replay_makespan}
use Rattle.definitions.specs.Claims.{task_processors, once, halted, halting_of}
use Rattle.definitions.proofs.Lists.{neither, in_append, in_map, map_in, in_keep, has_in, not_has}
use Rattle.definitions.specs.Facts.{JobFacts, Ordered, PlanFacts, Ascending}
use Rattle.definitions.proofs.Tasks.{in_task, line_facts}

-- The tasks that are doubled ----------------------------------------------------------------------------------

-- Each of them has a line with two replicas on one processor.
pub doubled_line : (t : ℕ) (ns : List Line) → In t (doubled_tasks ns) → (n : Line) × In n ns × (distinct (processors_of n) ≡ false) × (n.task ≡ t)
unfolding doubled_tasks
doubled_line t ns h =
    let (n, i, e) = in_map (λ n. n.task) t (keep (λ n. not (distinct (processors_of n))) ns) h in
    let (k, d) = in_keep (λ n. not (distinct (processors_of n))) n ns i in
    (n, k, not-true (distinct (processors_of n)) d, e)

-- Processors, each taken once --------------------------------------------------------------------------------------

pub in_once : (x : ℕ) (ps : List ℕ) → In x ps → In x (once ps)
unfolding once
in_once x [] i = elim i [ ]
in_once x (p ∷ ps) i = by (has p ps) refl i (in_once x ps)
  where
    by : (b : Bool) → has p ps ≡ b → (p ≡ x) ⊎ In x ps → (In x ps → In x (once ps)) → In x (if b then once ps else p ∷ once ps)
    by true h (inl e) f = f (rw (← e) (has_in p ps h))
    by true h (inr i) f = f i
    by false h (inl e) f = inl e
    by false h (inr i) f = inr (f i)

length_once : (ps : List ℕ) → length (once ps) ≤ length ps
unfolding once
length_once [] = omega arith
length_once (p ∷ ps) = by (has p ps) (length_once ps)
  where
    by : (b : Bool) → length (once ps) ≤ length ps → length (if b then once ps else p ∷ once ps) ≤ suc (length ps)
    by true h = omega arith
    by false h = omega arith

-- They are once_fewer if one stands twice.
pub once_fewer : (ps : List ℕ) → distinct ps ≡ false → length (once ps) < length ps
unfolding once distinct
once_fewer [] h = absurd (true≢false h)
once_fewer (p ∷ ps) h = by (has p ps) h (once_fewer ps)
  where
    by : (b : Bool) → (not b && distinct ps) ≡ false → (distinct ps ≡ false → length (once ps) < length ps) → length (if b then once ps else p ∷ once ps) < suc (length ps)
    by true h f = omega (arith, length_once ps)
    by false h f = omega (arith, f h)

-- Processors that do not descend: the first is the least.
pub rising : (p : ℕ) (ps : List ℕ) → descends (p ∷ ps) ≡ false → ((q : ℕ) → In q ps → p ≤ q) × (descends ps ≡ false)
unfolding descends
rising p [] h = ((λ q i. absurd i), refl)
rising p (q ∷ ps) h =
    let (a, b) = neither (ltb q p) (descends (q ∷ ps)) h in
    let (f, g) = rising q ps b in
    let c : p ≤ q = ltb-false q p a in
    ((λ r. ⊎_elim (λ e. omega arith) (λ i. omega (arith, f r i))), b)

-- Each taken once they ascend.
pub once_ascends :
    (l : Limits) (j : Job) (low : ℕ) (ps : List ℕ) → descends ps ≡ false → ((p : ℕ) → In p ps → low ≤ p)
    → ((p : ℕ) → In p ps → p < j.processors) → Ascending l j low (halted (once ps))
unfolding once
once_ascends l j low [] d h b = tt
once_ascends l j low (p ∷ ps) d h b =
    let (f, g) = rising p ps d in
    by (has p ps) refl f
    (once_ascends l j low ps g (λ q i. h q (inr i)) (λ q i. b q (inr i)))
    (λ above. once_ascends l j (1 + p) ps g above (λ q i. b q (inr i)))
  where
    by : (t : Bool) → has p ps ≡ t → ((q : ℕ) → In q ps → p ≤ q) → Ascending l j low (halted (once ps))
        → (((q : ℕ) → In q ps → 1 + p ≤ q) → Ascending l j (1 + p) (halted (once ps)))
        → Ascending l j low (halted (if t then once ps else p ∷ once ps))
    by true e f same next = same
    by false e f same next =
        (h p (inl refl), b p (inl refl), omega arith, next (λ q i. let ne : (q ≡ p → ⊥) = λ k. not_has p ps e (rw k at i) in omega (arith, f q i)))

length_halted : (ps : List ℕ) → length (halted ps) ≡ length ps
length_halted ps = length-map ps (λ p. record { processor = p; tick = 0 })

-- Each of them stops at tick 0.
pub stops_at_zero : (x : ℕ) (ps : List ℕ) → In x ps → stop_time (halted ps) x ≡ tick 0
unfolding stop_time
stops_at_zero x [] i = elim i [ ]
stops_at_zero x (p ∷ ps) i = by (eqb p x) refl i (stops_at_zero x ps)
  where
    by : (b : Bool) → eqb p x ≡ b → (p ≡ x) ⊎ In x ps → (In x ps → stop_time (halted ps) x ≡ tick 0) → (if b then tick 0 else stop_time (halted ps) x) ≡ tick 0
    by true e i f = refl
    by false e (inl q) f = absurd (eqb-false p x e q)
    by false e (inr i) f = f i

-- Lines in order ----------------------------------------------------------------------------------------------

-- The processors of a task are those of its one line.
pub line_processors :
    (j : Job) (seen : List ℕ) (ns : List Line) → Ordered j seen ns → (n : Line) → In n ns → (t : ℕ) → n.task ≡ t
    → task_processors t ns ≡ processors_of n
unfolding task_processors
line_processors j seen [] _ n x4 t q = elim x4 [ ]
line_processors j seen (m ∷ ns) (o, os) n (inl e) t q = rw (eq-eqb m.task t (ap (λ n. n.task) e ∙ q)) (ap processors_of e)
line_processors j seen (m ∷ ns) (o, os) n (inr i) t q =
    let (before, f, g) = line_facts j (m.task ∷ seen) ns os n i in
    rw (ne_eqb m.task t (λ e. f.new (g n.task (inl (e ∙ sym q))))) (line_processors j (m.task ∷ seen) ns os n i t q)

-- What a walk gives -------------------------------------------------------------------------------------------

-- c is a replica of line n's task: on a processor of the line, with the table's run time.
pub record PlacementOf (j : Job) (n : Line) (c : Placement) : Type 0 where
  pub same_task : c.task ≡ n.task
  pub on_processor_lem : In c.processor (processors_of n)
  pub run_time_lem : c.run ≡ run_time j n.task c.processor

line_placement : (j : Job) (n : Line) (c : Placement) → In c (placements_of j n.task (processors_of n)) → PlacementOf j n c
line_placement j n c i =
    let (p, k, e) = in_map (placement_of j n.task) c (processors_of n) i in
    rw (← e) (record { same_task = refl; on_processor_lem = k; run_time_lem = refl })

-- A replica of lines is a replica of one of them.
pub placements_in_lem : (j : Job) (ns : List Line) (c : Placement) → In c (placements j ns) → (n : Line) × In n ns × PlacementOf j n c
unfolding placements
placements_in_lem j [] c i = elim i [ ]
placements_in_lem j (n ∷ ns) c i =
    ⊎_elim (λ k. (n, inl refl, line_placement j n c k)) (λ k. let (m, h, f) = placements_in_lem j ns c k in (m, inr h, f))
    (in_append c (placements_of j n.task (processors_of n)) (placements j ns) i)

-- Each outcome is that of a replica, after some that are placed.
pub walk_in :
    (j : Job) (choose : List Time → Time) (stops : List Stop) (placed : List Outcome) (cs : List Placement) (d : Outcome) → In d (walk j choose stops placed cs)
    → (c : Placement) × In c cs × (earlier : List Outcome) × (outcome c (finish j choose stops earlier c) ≡ d)
unfolding walk
walk_in j choose stops placed [] d x' = elim x' [ ]
walk_in j choose stops placed (c ∷ cs) d (inl e) = (c, inl refl, placed, e)
walk_in j choose stops placed (c ∷ cs) d (inr i) =
    let (c', k, earlier, e) = walk_in j choose stops (outcome c (finish j choose stops placed c) ∷ placed) cs d i in
    (c', inr k, earlier, e)

past_zero : (n : ℕ) (x : Time) → 1 ≤ n → unless_stopped (tick 0) (after n x) ≡ never
past_zero n never h = refl
past_zero n (tick x) h = rw (lt-leb (x + n) 0 (omega arith))

-- On a processor that stops at tick 0 nothing that takes time is finished.
pub finish_never :
    (j : Job) (choose : List Time → Time) (stops : List Stop) (placed : List Outcome) (c : Placement)
    → stop_time stops c.processor ≡ tick 0 → 1 ≤ c.run → finish j choose stops placed c ≡ never
unfolding finish
finish_never j choose stops placed c s h = rw s (past_zero c.run (start j choose placed c.task c.processor) h)

least_never : (xs : List Time) → ((x : Time) → In x xs → x ≡ never) → least xs ≡ never
unfolding least
least_never [] h = refl
least_never (x ∷ xs) h = rw (h x (inl refl)) (least_never xs (λ y i. h y (inr i)))

largest_never : (xs : List Time) → In never xs → largest xs ≡ never
unfolding largest
largest_never [] x' = elim x' [ ]
largest_never (x ∷ xs) (inl e) = rw e
largest_never (x ∷ xs) (inr i) = by x (largest_never xs i)
  where
    by : (y : Time) → largest xs ≡ never → later y (largest xs) ≡ never
    by never e = refl
    by (tick y) e = rw e

-- A task of which no replica finishes is undone; so is the round if it is an exit task.
pub undone : (t : ℕ) (ds : List Outcome) → ((d : Outcome) → In d ds → d.task ≡ t → d.time ≡ never) → first_finish t ds ≡ never
unfolding first_finish
undone t ds h =
    least_never (times (of_task t ds)) λ x i.
    let (d, k, e) = in_map (λ (d : Outcome). d.time) x (of_task t ds) i in
    let (m, q) = in_task t d ds k in
    sym e ∙ h d m q

pub round_undone : (j : Job) (t : ℕ) (ds : List Outcome) → In t (exits j) → first_finish t ds ≡ never → replay_makespan j ds ≡ never
unfolding replay_makespan makespan first_finish
round_undone j t ds i h =
    largest_never (map (λ t. least (times (of_task t ds))) (exits j)) (rw h at (map_in (λ t. least (times (of_task t ds))) t (exits j) i))

-- No replica of a task finishes where its processors stop at tick 0.
module _ (l : Limits) (j : Job) (ns : List Line) (t : ℕ) (f : JobFacts l j) (o : Ordered j [] ns) where
  pub replica_undone :
      (placed : List Outcome) (n : Line) (c : Placement) → In n ns → PlacementOf j n c → n.task ≡ t
      → finish j least (halting_of t ns) placed c ≡ never
  replica_undone placed n c i g e =
      let (before, h, g') = line_facts j [] ns o n i in
      let on_processor_lem : In c.processor (task_processors t ns) = rw (line_processors j [] ns o n i t e) g.on_processor_lem in
      finish_never j least (halting_of t ns) placed c
      (stops_at_zero c.processor (once (task_processors t ns)) (in_once c.processor (task_processors t ns) on_processor_lem))
      (rw g.run_time_lem (f.run_least n.task c.processor h.task_below (h.processors_below c.processor g.on_processor_lem)))

  pub halted_undone : first_finish t (replay j (halting_of t ns) ns) ≡ never
  unfolding replay
  halted_undone =
      undone t (walk j least (halting_of t ns) [] (placements j ns)) λ d i q.
      let (c, k, placed, e) = walk_in j least (halting_of t ns) [] (placements j ns) d i in
      let (n, m, g) = placements_in_lem j ns c k in
      sym (ap (λ (d : Outcome). d.time) e)
      ∙ replica_undone placed n c m g (sym g.same_task ∙ ap (λ (d : Outcome). d.task) e ∙ q)

-- The processors of a doubled task, stopped at tick 0, are a stop list of at most ε stops under which it is undone.
pub doubled_undone :
    (l : Limits) (j : Job) (p : Plan) (t : ℕ) → JobFacts l j → PlanFacts l j p → In t (doubled_tasks p.lines)
    → Ascending l j 0 (halting_of t p.lines)
    × (length (halting_of t p.lines) ≤ j.losses)
    × (first_finish t (replay j (halting_of t p.lines) p.lines) ≡ never)
    × (In t (exits j) → replay_makespan j (replay j (halting_of t p.lines) p.lines) ≡ never)
doubled_undone l j p t f g i =
    let (n, k, d, e) = doubled_line t p.lines i in
    let (before, h, g') = line_facts j [] p.lines g.ordered n k in
    let processors = line_processors j [] p.lines g.ordered n k t e in
    let never_done = halted_undone l j p.lines t f g.ordered in (
      rw processors (once_ascends l j 0 (processors_of n) h.ascends (λ q i. omega arith) h.processors_below),
      rw processors (omega (arith, length_halted (once (processors_of n)), once_fewer (processors_of n) d, length-map n.replicas (λ r. r.processor), h.width)),
      never_done,
      λ x. round_undone j t (replay j (halting_of t p.lines) p.lines) x never_done,
    )
