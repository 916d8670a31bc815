-- What the lines in memory are to the definitions: the placed replicas, the data they send and the levels they give.
use Rattle.std.specs.Prelude.{if◌then◌else◌}
use Rattle.lists.proofs.Prelude.{◌≡◌, refl, ap, ◌∙◌, sym, inl, inr, ⊎_elim, List, [], ◌∷◌, ◌++◌, map, append-nil, Bool, true, false, ℕ, zero, suc, ◌+◌, ◌*◌, ◌-◌, ◌<◌, ◌≤◌, arith, eq-eqb, ne_eqb, lt-ltb, le-ltb, eqb, ltb, nth, keep, has, In, below, greatest, Edge, incoming, Time, later, after, least, largest, Outcome, of_task, ready, start, tick_of, largest_delay, scale, top_level, Limits}
use Rattle.definitions.specs.Times.{feeding, arrival, data_ready}
use Rattle.definitions.proofs.Lists.{map_same, map_in, in_map, in_append, append_left, append_right, in_has, has_not, keep_every, keep_none, in_below, below_in, greatest_most}
use Rattle.definitions.proofs.Tasks.{in_incoming}
use Rattle.heads.specs.Layout.{line_at, row_at, processor_at, time_at}
use Rattle.jobs.specs.Held.{job_in}
use Rattle.ticks.specs.Cells.{time_in}
use Rattle.rounds.specs.Schedule.{choice_of, arrival_in, line_count, data_in, PredecessorsPlaced, top_in, LargestDelaysFilled}
use Rattle.plans.specs.Lines.{row_outcomes, placed_in, row_of, LinesHeld}
use Rattle.lists.proofs.Counting.{last_or_before, zero_or_more}
use Rattle.jobs.proofs.Held.{tasks_in_lem}

-- The replicas of lines ---------------------------------------------------------------------------------------------

-- Replica i of the line at a.
abbrev pub row_outcome : Bool → ℕ → ℕ → List ℕ → Outcome
row_outcome late a i mem = record { task = nth mem a; processor = nth mem (processor_at a i); time = time_in (nth mem (time_at late a i)) }

module _ (late : Bool) (mem : List ℕ) where
  pub in_row : (a c : ℕ) (d : Outcome) → In d (row_outcomes late a c mem) → (i : ℕ) × (i < c) × (d ≡ row_outcome late a i mem)
  unfolding row_outcomes
  in_row a zero d x' = elim x' [ ]
  in_row a (suc c) d (inl e) = (c, omega arith, sym e)
  in_row a (suc c) d (inr i) = let (k, l, e) = in_row a c d i in (k, omega arith, e)

  pub row_in : (a c i : ℕ) → i < c → In (row_outcome late a i mem) (row_outcomes late a c mem)
  unfolding row_outcomes
  row_in a zero i h = absurd (omega arith)
  row_in a (suc c) i h = ⊎_elim (λ (e : i ≡ c). inl (rw e)) (λ l. inr (row_in a c i l)) (last_or_before c i h)

  pub in_placed : (capacity w k : ℕ) (d : Outcome) → In d (placed_in capacity late w k mem) → (n : ℕ) × (n < k) × In d (row_outcomes late (row_at capacity n) w mem)
  unfolding placed_in
  in_placed capacity w zero d i = elim i [ ]
  in_placed capacity w (suc k) d i =
      ⊎_elim (λ j. (k, omega arith, j)) (λ j. let (n, l, m) = in_placed capacity w k d j in (n, omega arith, m))
      (in_append d (row_outcomes late (row_at capacity k) w mem) (placed_in capacity late w k mem) i)

  pub placed_in_lem : (capacity w k n : ℕ) (d : Outcome) → n < k → In d (row_outcomes late (row_at capacity n) w mem) → In d (placed_in capacity late w k mem)
  unfolding placed_in
  placed_in_lem capacity w zero n d h i = absurd (omega arith)
  placed_in_lem capacity w (suc k) n d h i =
      ⊎_elim
      (λ (e : n ≡ k). append_left d (row_outcomes late (row_at capacity k) w mem) (placed_in capacity late w k mem) (rw (← e) i))
      (λ l. append_right d (row_outcomes late (row_at capacity k) w mem) (placed_in capacity late w k mem) (placed_in_lem capacity w k n d l i))
      (last_or_before k n h)

-- The outcomes of a task ------------------------------------------------------------------------------------------

pub of_task_append : (u : ℕ) (xs ys : List Outcome) → of_task u (xs ++ ys) ≡ of_task u xs ++ of_task u ys
unfolding of_task keep
of_task_append u [] ys = refl
of_task_append u (x ∷ xs) ys = by (eqb x.task u) (of_task_append u xs ys)
  where
    by : (b : Bool) → of_task u (xs ++ ys) ≡ of_task u xs ++ of_task u ys
        → (if b then x ∷ of_task u (xs ++ ys) else of_task u (xs ++ ys)) ≡ (if b then x ∷ of_task u xs else of_task u xs) ++ of_task u ys
    by true e = ap (x ∷◌) e
    by false e = e

module _ (late : Bool) (mem : List ℕ) (u : ℕ) where
  -- A line is of one task.
  pub row_all : (a c : ℕ) → nth mem a ≡ u → of_task u (row_outcomes late a c mem) ≡ row_outcomes late a c mem
  unfolding of_task
  row_all a c e = keep_every (λ d. eqb d.task u) (row_outcomes late a c mem) (λ d i. let (_, _, q) = in_row late mem a c d i in rw q (eq-eqb (nth mem a) u e))

  pub row_none : (a c : ℕ) → (nth mem a ≡ u → ⊥) → of_task u (row_outcomes late a c mem) ≡ []
  unfolding of_task
  row_none a c n = keep_none (λ d. eqb d.task u) (row_outcomes late a c mem) (λ d i. let (_, _, q) = in_row late mem a c d i in rw q (ne_eqb (nth mem a) u n))

  placed_none : (capacity w k : ℕ) → ((i : ℕ) → i < k → nth mem (row_at capacity i) ≡ u → ⊥) → of_task u (placed_in capacity late w k mem) ≡ []
  unfolding of_task
  placed_none capacity w k h =
      keep_none (λ d. eqb d.task u) (placed_in capacity late w k mem) (λ d i.
      let (n, l, j) = in_placed late mem capacity w k d i in
      let (_, _, q) = in_row late mem (row_at capacity n) w d j in
      rw q (ne_eqb (nth mem (row_at capacity n)) u (h n l)))

  -- The line of a task has its outcomes.
  placed_row : (capacity w k i : ℕ) → i < k → nth mem (row_at capacity i) ≡ u → ((n : ℕ) → n < k → nth mem (row_at capacity n) ≡ u → n ≡ i)
      → of_task u (placed_in capacity late w k mem) ≡ row_outcomes late (row_at capacity i) w mem
  unfolding placed_in
  placed_row capacity w zero i h e o = absurd (omega arith)
  placed_row capacity w (suc k) i h e o =
      of_task_append u (row_outcomes late (row_at capacity k) w mem) (placed_in capacity late w k mem)
      ∙ ⊎_elim
      (λ (q : i ≡ k).
      rw (← q, row_all (row_at capacity i) w e, placed_none capacity w i (λ n g f. let z = o n (omega arith) f in omega arith)) (append-nil (row_outcomes late (row_at capacity i) w mem)))
      (λ l. rw (row_none (row_at capacity k) w (λ f. let z = o k (omega arith) f in omega arith)) (placed_row capacity w k i l e (λ n g. o n (omega arith))))
      (last_or_before k i h)

-- Lines that stand in a memory --------------------------------------------------------------------------------------

-- Every predecessor of t has its line among the first k.
abbrev pub PredecessorsPlacedBy : ℕ → ℕ → ℕ → List ℕ → Type 0
PredecessorsPlacedBy capacity k t mem = (e : Edge) → In e (incoming (job_in mem) t) → (0 < nth mem (line_at capacity + e.from)) × (nth mem (line_at capacity + e.from) ≤ k)

-- When the data of an edge is on p, from the line of its first task.
abbrev pub arrival_of : ℕ → Bool → ℕ → List ℕ → Edge → Time
arrival_of capacity late p mem e = arrival_in late e.volume p (row_of capacity e.from mem) mem

greatest_least : {A : Type 0} (f : A → ℕ) (x : A) (xs : List A) → In x xs → f x ≤ greatest (map f xs)
unfolding greatest
greatest_least {A = A} f x [] x'' = elim x'' [ ]
greatest_least f x (y ∷ xs) (inl e) = rw e (omega arith)
greatest_least f x (y ∷ xs) (inr i) = omega (arith, greatest_least f x xs i)

module _ {lim : Limits} {capacity n : ℕ} {mem : List ℕ} (s : LinesHeld lim capacity n mem) where
  abbrev line_of : ℕ → ℕ
  line_of u = nth mem (line_at capacity + u)

  -- The line of a task that is placed.
  pub line_in_lem : (u i : ℕ) → u < nth mem 0 → nth mem (line_at capacity + u) ≡ suc i → (i < n) × (nth mem (row_at capacity i) ≡ u)
  line_in_lem u i h e =
      ⊎_elim
      (λ z. absurd (omega arith))
      (λ (r : (i : ℕ) × (i < n) × (nth mem (line_at capacity + u) ≡ suc i) × (nth mem (row_at capacity i) ≡ u)).
      let q : r.0 ≡ i = omega (arith, r.2) in
      let t = r.3 in
      (omega (arith, r.1), rw q at t))
      (s.placed u h)

  line_alone : (u m : ℕ) → m < n → nth mem (row_at capacity m) ≡ u → nth mem (line_at capacity + u) ≡ suc m
  line_alone u m h e = rw e at (s.line_of m h)

  line_most : (u : ℕ) → u < nth mem 0 → nth mem (line_at capacity + u) ≤ n
  line_most u h = ⊎_elim (λ z. omega arith) (λ l. omega (arith, (line_in_lem u (line_of u - 1) h (omega arith)).0)) (zero_or_more (line_of u))

  pub placed_row_of : (late : Bool) (w k : ℕ) → k ≤ n → (u : ℕ) → u < nth mem 0 → 0 < nth mem (line_at capacity + u) → nth mem (line_at capacity + u) ≤ k
      → of_task u (placed_in capacity late w k mem) ≡ row_outcomes late (row_of capacity u mem) w mem
  placed_row_of late w k a u h l g =
      let i = line_of u - 1 in
      placed_row late mem u capacity w k i (omega arith) (line_in_lem u i h (omega arith)).1 (λ m b f. let z = line_alone u m (omega arith) f in omega arith)

  -- A task of the job is placed if it has a line.
  pub has_placed : (late : Bool) (w u : ℕ) → 0 < w → u < nth mem 0 → has u (map (λ d. d.task) (placed_in capacity late w n mem)) ≡ ltb 0 (nth mem (line_at capacity + u))
  has_placed late w u b h =
      let task : Outcome → ℕ = λ d. d.task in
      let ds = placed_in capacity late w n mem in
      ⊎_elim
      (λ (e : line_of u ≡ 0).
      has_not u (map task ds) (λ i.
      let (d, j, q) = in_map task u ds i in
      let (m, l, k) = in_placed late mem capacity w n d j in
      let (_, _, z) = in_row late mem (row_at capacity m) w d k in
      let y = line_alone u m l (sym (ap task z) ∙ q) in
      omega arith)
      ∙ sym (le-ltb 0 (line_of u) (omega arith)))
      (λ (l : 0 < line_of u).
      let i = line_of u - 1 in
      let (m, e) = line_in_lem u i h (omega arith) in
      let first = row_outcome late (row_at capacity i) 0 mem in
      in_has u (map task ds) (rw e at (map_in task first ds (placed_in_lem late mem capacity w n i first m (row_in late mem (row_at capacity i) w 0 b)))) ∙ sym (lt-ltb 0 (line_of u) l))
      (zero_or_more (line_of u))

  sender_below : (t : ℕ) (e : Edge) → In e (incoming (job_in mem) t) → e.from < nth mem 0
  sender_below t e i = rw (tasks_in_lem mem) at (s.job.facts.from_task e (in_incoming (job_in mem) t e i).0)

  pub predecessors_all : (t : ℕ) → PredecessorsPlaced capacity t mem → PredecessorsPlacedBy capacity n t mem
  predecessors_all t f e i = (f e i, line_most e.from (sender_below t e i))

  -- Data and levels -----------------------------------------------------------------------------------------------

  module _ (k t : ℕ) (a : k ≤ n) (f : PredecessorsPlacedBy capacity k t mem) where
    -- The outcomes of a predecessor are those of its line.
    pub feeding_line : (late : Bool) (e : Edge) → In e (incoming (job_in mem) t)
        → of_task e.from (placed_in capacity late (nth mem 3 + 1) k mem) ≡ row_outcomes late (row_of capacity e.from mem) (nth mem 3 + 1) mem
    feeding_line late e i = let (l, g) = f e i in placed_row_of late (nth mem 3 + 1) k a e.from (sender_below t e i) l g

    -- So are those that feed a processor.
    arrival_line : (late : Bool) (p : ℕ) (e : Edge) → In e (incoming (job_in mem) t)
        → arrival_of capacity late p mem e ≡ arrival (job_in mem) (choice_of late) (placed_in capacity late (nth mem 3 + 1) k mem) p e
    unfolding arrival feeding
    arrival_line late p e i = rw (feeding_line late e i, row_all late mem _ (row_of capacity e.from mem) (nth mem 3 + 1) refl)

    data_lines : (late : Bool) (p : ℕ)
        → largest (map (arrival_of capacity late p mem) (incoming (job_in mem) t)) ≡ data_ready (job_in mem) (choice_of late) (placed_in capacity late (nth mem 3 + 1) k mem) t p
    unfolding data_ready
    data_lines late p = ap largest (map_same (arrival_of capacity late p mem) _ (incoming (job_in mem) t) (arrival_line late p))

    pub level_placed : LargestDelaysFilled capacity mem → top_level (job_in mem) (placed_in capacity false (nth mem 3 + 1) k mem) t ≡ tick_of (top_in capacity t mem) * scale (job_in mem)
    unfolding top_level top_in
    level_placed g =
        let everywhere : Edge → List Outcome → Time = λ e ds. least (map (λ d. after (e.volume * largest_delay (job_in mem) d.processor) d.time) ds) in
        ap (λ (xs : List Time). tick_of (largest xs) * scale (job_in mem))
        (map_same (λ e. everywhere e (of_task e.from (placed_in capacity false (nth mem 3 + 1) k mem))) _ (incoming (job_in mem) t)
        (λ e i.
        let (l, m) = f e i in
        let b = row_of capacity e.from mem in
        rw (feeding_line false e i)
        (ap least (map_same _ _ (row_outcomes false b (nth mem 3 + 1) mem) (λ d j.
        let (c, h, q) = in_row false mem b (nth mem 3 + 1) d j in
        rw (q, g _ ((s.row (line_of e.from - 1) (omega arith)).processor_of c h)))))))

  -- The data by the walk over the edges.
  pub data_walked : (t : ℕ) → PredecessorsPlaced capacity t mem → (late : Bool) (p : ℕ) → largest (map (arrival_of capacity late p mem) (incoming (job_in mem) t)) ≡ data_in capacity late t p mem
  unfolding data_in
  data_walked t f =
      data_lines (line_count capacity mem) t (greatest_most line_of (below (nth mem 0)) (λ u i. line_most u (in_below (nth mem 0) u i)))
      (λ e i. (f e i, greatest_least line_of e.from (below (nth mem 0)) (below_in (nth mem 0) e.from (sender_below t e i))))

  module _ (k t : ℕ) (a : k ≤ n) (f : PredecessorsPlacedBy capacity k t mem) where
    pub data_placed : (late : Bool) (p : ℕ) → data_in capacity late t p mem ≡ data_ready (job_in mem) (choice_of late) (placed_in capacity late (nth mem 3 + 1) k mem) t p
    data_placed late p = sym (data_walked t (λ e i. (f e i).0) late p) ∙ data_lines k t a f late p

    -- The start of t on p is that of the definition.
    pub start_placed : (late : Bool) (p : ℕ)
        → start (job_in mem) (choice_of late) (placed_in capacity late (nth mem 3 + 1) k mem) t p
        ≡ later (ready (job_in mem) p (placed_in capacity late (nth mem 3 + 1) k mem)) (data_in capacity late t p mem)
    unfolding start
    start_placed late p = rw (data_placed late p)
