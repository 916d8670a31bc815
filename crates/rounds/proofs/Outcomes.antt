-- The replicas of a line in memory: their outcomes, the ticks by which they come, and the finishes after them.
use Rattle.std.specs.Prelude.{if◌then◌else◌}
use Rattle.lists.proofs.Prelude.{◌≡◌, refl, ap, ◌∙◌, inl, inr, List, [], ◌∷◌, ◌++◌, map, map-append, reverse, Bool, true, false, ℕ, zero, suc, ◌+◌, ◌*◌, ◌-◌, ◌<◌, ◌≤◌, max, min, arith, mul-le-mul, ne_eqb, eqb, length, In, nth, keep, distinct, Edge, Job, delay, run_time, incoming, Replica, Line, processors_of, tick, later, after, Outcome, ready, arrival, data_ready, start, stop_time, finish, Time, sooner, least, largest, outcome, of_task, walk, placements_of, placements, placement_of, tick_of, Limits}
use mathlib.Core.List.{reverse_aux-append}
use Rattle.definitions.specs.Times.{feeding}
use Rattle.definitions.proofs.Ready.{first_ready_lem}
use Rattle.definitions.proofs.Lists.{map_same, apart_head}
use Rattle.heads.specs.Layout.{line_at, row_at, processor_at, early_at, late_at, time_at}
use Rattle.jobs.specs.Held.{job_in}
use Rattle.jobs.specs.Tables.{message_most, line_ticks, last_short}
use Rattle.ticks.specs.Cells.{never_cell, time_in}
use Rattle.plans.specs.Lines.{replica_in, row_outcomes, placed_in, row_replicas, row_of, LinesHeld}
use Rattle.rounds.specs.Schedule.{choice_of, data_in, ShortTo, PredecessorsPlaced}
use Rattle.rounds.specs.Arrivals.{BothSupplied, ShortClocks}
use Rattle.ticks.specs.declared.clocks.Clocks.{Clocks}
use Rattle.rounds.specs.Clocks.{earlies_in, lates_in, finish_on, ClocksHeld}
use Rattle.lists.proofs.ListLaws.{joined_last}
use Rattle.jobs.proofs.Held.{processors_in, sizes}
pub use Rattle.plans.proofs.Lines.{in_replicas}
use Rattle.definitions.proofs.Feeding.{in_feeding, feeding_some}
use Rattle.rounds.proofs.TimeLaws.{time_tick, round_most, feeds}
use Rattle.rounds.proofs.Placed.{in_row, in_placed, row_all, arrival_of, data_walked, start_placed, PredecessorsPlacedBy}

-- Replicas and their outcomes ---------------------------------------------------------------------------------------

pub placements_more : (j : Job) (ns : List Line) (n : Line) → placements j (ns ++ n ∷ []) ≡ placements j ns ++ placements_of j n.task (processors_of n)
unfolding placements
placements_more j = joined_last (placements j) (λ n. placements_of j n.task (processors_of n)) refl (λ n ns. refl)

other_task : (u : ℕ) (d : Outcome) (ds : List Outcome) → (d.task ≡ u → ⊥) → of_task u (d ∷ ds) ≡ of_task u ds
unfolding of_task keep
other_task u d ds h = rw (ne_eqb d.task u h)

module _ (j : Job) (choose : List Time → Time) where
  -- The outcome of t on p after what is placed.
  abbrev pub outcome_on : List Outcome → ℕ → ℕ → Outcome
  outcome_on placed t p = outcome (placement_of j t p) (finish j choose [] placed (placement_of j t p))

  -- A replica that does not feed t, on another processor, changes nothing for t on p.
  finish_other : (placed : List Outcome) (d : Outcome) (t p : ℕ) → ((e : Edge) → In e (incoming j t) → d.task ≡ e.from → ⊥) → (d.processor ≡ p → ⊥)
      → finish j choose [] (d ∷ placed) (placement_of j t p) ≡ finish j choose [] placed (placement_of j t p)
  unfolding finish start data_ready arrival feeding ready
  finish_other placed d t p h n =
      let a : map (arrival j choose (d ∷ placed) p) (incoming j t) ≡ map (arrival j choose placed p) (incoming j t) =
      map_same (arrival j choose (d ∷ placed) p) (arrival j choose placed p) (incoming j t) (λ e i. rw (other_task e.from d placed (h e i))) in
      rw (ne_eqb d.processor p n, a)

  -- The replicas of a task that does not feed itself, on different processors: each as if it were alone.
  pub walk_apart : (t : ℕ) → ((e : Edge) → In e (incoming j t) → t ≡ e.from → ⊥) → (ps : List ℕ) → distinct ps ≡ true → (placed : List Outcome)
      → walk j choose [] placed (placements_of j t ps) ≡ map (outcome_on placed t) ps
  unfolding walk
  walk_apart t h [] d placed = refl
  walk_apart t h (p ∷ ps) d placed =
      let (new, apart) = apart_head p ps d in
      ap (outcome_on placed t p ∷◌)
      (walk_apart t h ps apart (outcome_on placed t p ∷ placed)
      ∙ map_same (outcome_on (outcome_on placed t p ∷ placed) t) (outcome_on placed t) ps
      (λ q i. ap (outcome (placement_of j t q)) (finish_other placed (outcome_on placed t p) t q h (λ e. new (rw (← e) at i)))))

-- Times that come by a tick -----------------------------------------------------------------------------------------

-- x is a tick that does not pass b.
abbrev pub Comes : ℕ → Time → Type 0
Comes b x = (y : ℕ) × (x ≡ tick y) × (y ≤ b)

pub comes_wider : {b c : ℕ} {x : Time} → b ≤ c → Comes b x → Comes c x
comes_wider h (y, e, l) = (y, e, omega arith)

pub comes_after : {b : ℕ} {x : Time} (m n : ℕ) → n ≤ m → Comes b x → Comes (b + m) (after n x)
comes_after m n h (y, e, l) = (y + n, rw e, omega arith)

pub comes_later : {b : ℕ} {x y : Time} → Comes b x → Comes b y → Comes b (later x y)
comes_later (x, e, l) (y, f, m) = (max x y, rw (e, f), omega arith)

comes_sooner : {b : ℕ} {x y : Time} → Comes b x → Comes b y → Comes b (sooner x y)
comes_sooner (x, e, l) (y, f, m) = (min x y, rw (e, f), omega arith)

pub comes_largest : {A : Type 0} {b : ℕ} (f : A → Time) (xs : List A) → ((x : A) → In x xs → Comes b (f x)) → Comes b (largest (map f xs))
unfolding largest
comes_largest f [] h = (0, refl, omega arith)
comes_largest f (x ∷ xs) h = comes_later (h x (inl refl)) (comes_largest f xs (λ y i. h y (inr i)))

comes_least : {A : Type 0} {b : ℕ} (f : A → Time) (x : A) (xs : List A) → ((y : A) → In y (x ∷ xs) → Comes b (f y)) → Comes b (least (map f (x ∷ xs)))
unfolding least
comes_least f x [] h = let (y, e, l) = h x (inl refl) in (y, rw e, l)
comes_least f x (z ∷ xs) h = comes_sooner (h x (inl refl)) (comes_least f z xs (λ y i. h y (inr i)))

pub comes_choice : {A : Type 0} {b : ℕ} (late : Bool) (f : A → Time) (xs : List A) → 0 < length xs → ((x : A) → In x xs → Comes b (f x)) → Comes b (choice_of late (map f xs))
comes_choice late f [] h g = absurd (omega arith)
comes_choice true f (x ∷ xs) h g = comes_largest f (x ∷ xs) g
comes_choice false f (x ∷ xs) h g = comes_least f x xs g

pub tick_back : {b : ℕ} {x : Time} → Comes b x → tick (tick_of x) ≡ x
tick_back (y, e, l) = rw e

pub tick_most : {b : ℕ} {x : Time} → Comes b x → tick_of x ≤ b
tick_most (y, e, l) = rw e l

-- The outcome of a line's replica, early or late.
abbrev pub outcome_of : Bool → ℕ → Replica → Outcome
outcome_of late t r = record { task = t; processor = r.processor; time = time_in (if late then r.late else r.early) }

pub outcomes_row : (late : Bool) (a c : ℕ) (mem : List ℕ) → row_outcomes late a c mem ≡ reverse (map (outcome_of late (nth mem a)) (row_replicas a c mem))
unfolding row_outcomes row_replicas
outcomes_row late a zero mem = refl
outcomes_row late a (suc c) mem =
    let f = outcome_of late (nth mem a) in
    let xs = row_replicas a c mem in
    let r = replica_in a c mem in
    let back : reverse (map f (xs ++ r ∷ [])) ≡ f r ∷ reverse (map f xs) = rw (map-append f xs (r ∷ [])) (reverse_aux-append (map f xs) (f r ∷ []) []) in
    rw (back, outcomes_row late a c mem, time_of_lem late)
  where
    time_of_lem : (late : Bool) → nth mem (time_at late a c) ≡ (if late then nth mem (late_at a c) else nth mem (early_at a c))
    time_of_lem true = refl
    time_of_lem false = refl

-- The ticks of lines ------------------------------------------------------------------------------------------------

-- Every outcome comes by a tick that does not pass b.
abbrev pub AllCome : ℕ → List Outcome → Type 0
AllCome b ds = (d : Outcome) → In d ds → Comes b d.time

pub row_come : (late : Bool) (a c b : ℕ) (mem : List ℕ) → b < never_cell → ((i : ℕ) → i < c → nth mem (time_at late a i) ≤ b) → AllCome b (row_outcomes late a c mem)
row_come late a c b mem g h d i = let (k, l, e) = in_row late mem a c d i in rw e (nth mem (time_at late a k), time_tick _ (λ q. omega (arith, q, h k l)), h k l)

pub ready_comes : (j : Job) (p b : ℕ) (ds : List Outcome) → AllCome b ds → Comes b (ready j p ds)
unfolding ready
ready_comes j p b [] h = (0, first_ready_lem j p, omega arith)
ready_comes j p b (d ∷ ds) h = by (eqb d.processor p) (ready_comes j p b ds (λ x i. h x (inr i)))
  where
    by : (a : Bool) → Comes b (ready j p ds) → Comes b (if a then d.time else ready j p ds)
    by true r = h d (inl refl)
    by false r = r

pub row_length : (late : Bool) (a c : ℕ) (mem : List ℕ) → length (row_outcomes late a c mem) ≡ c
unfolding row_outcomes
row_length late a zero mem = refl
row_length late a (suc c) mem = ap suc (row_length late a c mem)

pub row_on : (late : Bool) (a c m : ℕ) (mem : List ℕ) → ((i : ℕ) → i < c → nth mem (processor_at a i) < m) → (d : Outcome) → In d (row_outcomes late a c mem) → d.processor < m
row_on late a c m mem h d i = let (k, l, e) = in_row late mem a c d i in rw e (h k l)

-- The data of a task comes a message after its predecessors' replicas.
module _ {lim : Limits} {capacity n : ℕ} {mem : List ℕ} (s : LinesHeld lim capacity n mem) (t p b : ℕ) (f : PredecessorsPlaced capacity t mem) (o : p < nth mem 1) (g : b < never_cell)
    (h : (late : Bool) (e : Edge) (c : ℕ) → In e (incoming (job_in mem) t) → c < nth mem 3 + 1 → nth mem (time_at late (row_of capacity e.from mem) c) ≤ b) where
  arrival_comes : (late : Bool) (e : Edge) → In e (incoming (job_in mem) t) → Comes (b + message_most lim) (arrival_of capacity late p mem e)
  unfolding arrival
  arrival_comes late e i =
      let wide = nth mem 3 + 1 in
      let a = row_of capacity e.from mem in
      let row = row_outcomes late a wide mem in
      let w = feeds t s f i in
      let all = row_all late mem (nth mem a) a wide refl in
      let some : 0 < length (feeding (job_in mem) (nth mem a) p row) = feeding_some (job_in mem) (nth mem a) p row (omega (arith, ap length all, row_length late a wide mem)) in
      comes_choice late (λ d. after (e.volume * delay (job_in mem) d.processor p) d.time) (feeding (job_in mem) (nth mem a) p row) some (λ d x.
      let j : In d row = rw all at (in_feeding (job_in mem) (nth mem a) p row d x) in
      comes_after (message_most lim) (e.volume * delay (job_in mem) d.processor p)
      (mul-le-mul {n₁ = e.volume} {m₁ = delay (job_in mem) d.processor p} {n₂ = lim.volume} {m₂ = lim.delay} w.volume_most
      (s.job.facts.delay_most d.processor p (rw (processors_in mem) (row_on late a wide (nth mem 1) mem w.row.processor_of d j)) (rw (processors_in mem) o)))
      (row_come late a wide b mem g (λ c l. h late e c i l) d j))

  pub data_comes : (late : Bool) → Comes (b + message_most lim) (data_in capacity late t p mem)
  data_comes late = rw (← data_walked s t f late p) (comes_largest (arrival_of capacity late p mem) (incoming (job_in mem) t) (arrival_comes late))

-- From the tick at which p is ready: the finish of t on p is that of the definition.
pub finish_at : {lim : Limits} {capacity n k : ℕ} {mem : List ℕ} → LinesHeld lim capacity n mem → k ≤ n
    → (late : Bool) (t p x : ℕ) → PredecessorsPlacedBy capacity k t mem
    → tick x ≡ ready (job_in mem) p (placed_in capacity late (nth mem 3 + 1) k mem)
    → after (run_time (job_in mem) t p) (later (tick x) (data_in capacity late t p mem)) ≡ finish_on capacity late k mem t p
unfolding finish_on finish stop_time
finish_at {k = k} s l late t p x f e = rw (e, start_placed s k t l f late p)

-- The first k lines have ticks that do not pass k times those of a line.
module _ {lim : Limits} {capacity n k : ℕ} {mem : List ℕ} (s : LinesHeld lim capacity n mem) (l : k ≤ n) (h : ShortTo lim capacity k mem) where
  -- So they are short.
  pub short_most : k * line_ticks lim ≤ last_short
  short_most = (round_most s.job.tabled k (omega (arith, l, s.count, (sizes s.job).tasks_most))).0

  pub cells_most : (late : Bool) (i c : ℕ) → i < k → c < nth mem 3 + 1 → nth mem (time_at late (row_at capacity i) c) ≤ k * line_ticks lim
  cells_most true i c g m = (h i c g m).1
  cells_most false i c g m = (h i c g m).0

  pub all_come : (late : Bool) → AllCome (k * line_ticks lim) (placed_in capacity late (nth mem 3 + 1) k mem)
  all_come late d i =
      let f = short_most in
      let (n, b, j) = in_placed late mem capacity (nth mem 3 + 1) k d i in
      row_come late (row_at capacity n) (nth mem 3 + 1) (k * line_ticks lim) mem (omega arith) (λ c. cells_most late n c b) d j

  -- A processor's ready tick.
  clock_most : (late : Bool) (p x : ℕ) → tick x ≡ ready (job_in mem) p (placed_in capacity late (nth mem 3 + 1) k mem) → x ≤ last_short
  clock_most late p x e =
      let (y, f, m) = ready_comes (job_in mem) p (k * line_ticks lim) (placed_in capacity late (nth mem 3 + 1) k mem) (all_come late) in
      let q : x ≡ y = ap tick_of (e ∙ f) in
      omega (arith, short_most)

  -- The clocks have short ticks.
  pub clocks_short : {clocks : Clocks} → ClocksHeld clocks (job_in mem) (earlies_in capacity k mem) (lates_in capacity k mem) → ShortClocks clocks mem
  clocks_short {clocks} c = (
    (c.early_size, λ p o. clock_most false p (nth clocks.early p) (c.early_ready p (rw (processors_in mem) o))),
    (c.late_size, λ p o. clock_most true p (nth clocks.late p) (c.late_ready p (rw (processors_in mem) o))),
  )

  -- The lines of a task's predecessors have short ticks.
  pub predecessors_short : (t : ℕ) → PredecessorsPlacedBy capacity k t mem → BothSupplied capacity t mem
  predecessors_short t f e i =
      let (g, m) = f e i in
      let b = short_most in
      (g, λ c o. let (x, y) = h (nth mem (line_at capacity + e.from) - 1) c (omega arith) o in (omega arith, omega arith))
