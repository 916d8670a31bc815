-- The rules of a plan's lines, with the job and the lines before in a memory.
use Rattle.lists.proofs.Prelude.{◌≡◌, refl, ap, subst, sym, ◌∙◌, inr, ⊎_elim, List, [], ◌∷◌, map, map-map, reverse, Bool, true, false, not, ◌||◌}
use Rattle.lists.proofs.Prelude.{true≢false, ℕ, zero, suc, ◌+◌, ◌-◌, ◌<◌, ◌≤◌, arith, add-one, drop, take, get_or, ltb-true, lt-ltb, le-ltb, eq-eqb, ne_eqb, not-false, eqb}
use Rattle.lists.proofs.Prelude.{ltb, length, nth, below, In, any, all, has, Limits, first_of, Edge, incoming, outside, Replica, Line, processors_of}
use Rattle.lists.proofs.Prelude.{descends, plan_line_rule}
use Rattle.definitions.specs.Plan.{strays}
use Rattle.definitions.proofs.Lists.{neither, neither_false, refuted, inside, in_any, none_in, none_any, all_in, in_all, reverse_left, in_map, map_in}
use Rattle.definitions.proofs.Lists.{in_below, below_in, nth_in, in_has, has_not}
use Rattle.definitions.proofs.Tasks.{in_incoming}
use Rattle.definitions.proofs.Doubled.{rising}
use Rattle.heads.specs.Layout.{line_at, row_at, processor_at, early_at, late_at}
use Rattle.jobs.specs.Held.{job_in, JobHeld}
use Rattle.plans.specs.Lines.{replica_in, replica_strays, row_replicas, lines_in, RowHeld, LinesHeld}
use Rattle.orders.specs.Edges.{edge_in}
use Rattle.orders.specs.Links.{run, Run}
use Rattle.orders.proofs.Walk.{pass_in}
use Rattle.plans.specs.Loading.{line_in}
use Rattle.std.proofs.Common.{zero-add}
use Rattle.std.proofs.lemmas.List.{get_or_default}
use Rattle.std.specs.Bool.{MatchBool}
use Rattle.std.specs.List.{range_with_len, AllWithin, HoldsAt}
use Rattle.std.proofs.lemmas.List.FromFn.{length-range_with_len, get_or-range_with_len}
use Rattle.lists.proofs.ListLaws.{all_same, part_length, part_nth}
use Rattle.jobs.proofs.Held.{sizes, tasks_in_lem}
use Rattle.plans.proofs.Lines.{line_with, lines_below, replica_of, in_replicas, processors_length, processor_at_lem}

-- The processors and ticks of a line --------------------------------------------------------------------------------

-- Some number below n has P, or each has Q.
abbrev pub AnyBelow : (ℕ → Type 0) → (ℕ → Type 0) → ℕ → Bool → Type 0
AnyBelow P Q n true = (c : ℕ) × (c < n) × P c
AnyBelow P Q n false = (c : ℕ) → c < n → Q c

-- What `(0..n).any(..)` says of the numbers, where `cases_from_any` said it of their list.
pub any_below : (P Q : ℕ → Type 0) (n : ℕ) (r : Bool) → MatchBool r ((i : ℕ) × (i < length (range_with_len 0 n)) × HoldsAt P (range_with_len 0 n) i)
    (AllWithin Q (range_with_len 0 n) 0 (length (range_with_len 0 n))) → AnyBelow P Q n r
any_below P Q n true (i, g, e) = let h : i < n = omega (arith, length-range_with_len 0 n) in (i, h, subst P (get_or-range_with_len 0 n i 0 h ∙ zero-add i) (e 0))
any_below P Q n false e = λ c h. subst Q (get_or-range_with_len 0 n c 0 h ∙ zero-add c) (e c 0 (omega arith) (omega (arith, length-range_with_len 0 n)))

abbrev strayed : Limits → List ℕ → Replica → Bool
strayed l mem r = not (ltb r.processor (nth mem 1)) || outside 0 l.tick r.early || outside 0 l.tick r.late

module _ (l : Limits) (mem : List ℕ) (a : ℕ) where
  pub strays_task : nth mem 0 ≤ nth mem a → true ≡ strays l (job_in mem) (line_in a mem)
  unfolding strays job_in
  strays_task h = rw (le-ltb (nth mem a) (nth mem 0) h)

  module _ (h : nth mem a < nth mem 0) where
    strays_here : (c : ℕ) → c < nth mem 3 + 1 → replica_strays l a c mem ≡ true → true ≡ strays l (job_in mem) (line_in a mem)
    unfolding strays job_in
    strays_here c g e =
        rw (lt-ltb (nth mem a) (nth mem 0) h) (sym (in_any (strayed l mem) (replica_in a c mem) (row_replicas a (nth mem 3 + 1) mem) (in_replicas a (nth mem 3 + 1) c mem g) e))

    strays_none : ((c : ℕ) → c < nth mem 3 + 1 → replica_strays l a c mem ≡ false) → false ≡ strays l (job_in mem) (line_in a mem)
    unfolding strays job_in
    strays_none f =
        rw (lt-ltb (nth mem a) (nth mem 0) h)
        (sym (none_any (strayed l mem) (row_replicas a (nth mem 3 + 1) mem) (λ r i. let (c, g, e) = replica_of mem a (nth mem 3 + 1) r i in rw (← e) (f c g))))

    -- It was asked of each replica.
    pub strays_by : (r : Bool) → AnyBelow (λ c. replica_strays l a c mem ≡ true) (λ c. replica_strays l a c mem ≡ false) (nth mem 3 + 1) r → r ≡ strays l (job_in mem) (line_in a mem)
    strays_by true (c, g, e) = strays_here c g e
    strays_by false e = strays_none e

  -- A line that does not stray.
  pub strays_not : strays l (job_in mem) (line_in a mem) ≡ false → (nth mem a < nth mem 0) × RowHeld l a mem
  unfolding strays job_in
  strays_not e =
      let (t, r) = neither (not (ltb (nth mem a) (nth mem 0))) (any (strayed l mem) (row_replicas a (nth mem 3 + 1) mem)) e in
      let cell : (c : ℕ) → c < nth mem 3 + 1 → (nth mem (processor_at a c) < nth mem 1) × (nth mem (early_at a c) ≤ l.tick) × (nth mem (late_at a c) ≤ l.tick) = λ c h.
      let g = none_in (strayed l mem) (replica_in a c mem) (row_replicas a (nth mem 3 + 1) mem) r (in_replicas a (nth mem 3 + 1) c mem h) in
      let (x, late) = neither (not (ltb (nth mem (processor_at a c)) (nth mem 1)) || outside 0 l.tick (nth mem (early_at a c))) (outside 0 l.tick (nth mem (late_at a c))) g in
      let (place, early) = neither (not (ltb (nth mem (processor_at a c)) (nth mem 1))) (outside 0 l.tick (nth mem (early_at a c))) x in
      (ltb-true _ _ (not-false _ place), (inside 0 l.tick (nth mem (early_at a c)) early).1, (inside 0 l.tick (nth mem (late_at a c)) late).1) in (
        ltb-true _ _ (not-false _ t),
        record { processor_of = λ c h. (cell c h).0; early_of = λ c h. inr (cell c h).1; late_of = λ c h. inr (cell c h).2 },
      )

-- The order of a line's processors ------------------------------------------------------------------------------------

-- Numbers do not descend exactly if each is at least the one before.
pub ascends_at : (ps : List ℕ) (i : ℕ) → descends ps ≡ false → suc i < length ps → nth ps i ≤ nth ps (suc i)
ascends_at [] i d h = absurd (omega arith)
ascends_at (p ∷ ps) zero d h = (rising p ps d).0 (nth ps 0) (nth_in ps 0 (omega arith))
ascends_at (p ∷ ps) (suc i) d h = ascends_at ps i (rising p ps d).1 (omega arith)

ascend_each : (ps : List ℕ) → ((i : ℕ) → suc i < length ps → nth ps i ≤ nth ps (suc i)) → descends ps ≡ false
unfolding descends
ascend_each [] h = refl
ascend_each (p ∷ []) h = refl
ascend_each (p ∷ q ∷ ps) h = neither_false (le-ltb q p (h 0 (omega arith))) (ascend_each (q ∷ ps) (λ i l. h (suc i) (omega arith)))

module _ (mem : List ℕ) (a : ℕ) where
  abbrev processors : List ℕ
  processors = processors_of (line_in a mem)

  -- Of two neighbours, replicas c and n.
  neighbours : (c : ℕ) → c < nth mem 3 → (nth processors c ≡ nth mem (processor_at a c)) × (nth processors (suc c) ≡ nth mem (processor_at a (suc c))) × (suc c < length processors)
  neighbours c l = (
    processor_at_lem mem a (nth mem 3 + 1) c (omega arith),
    processor_at_lem mem a (nth mem 3 + 1) (suc c) (omega arith),
    omega (arith, processors_length mem a (nth mem 3 + 1)),
  )

  descends_here : (c : ℕ) → c < nth mem 3 → nth mem (processor_at a (suc c)) < nth mem (processor_at a c) → true ≡ descends (processors_of (line_in a mem))
  descends_here c l h = by (descends processors) refl
    where
      by : (b : Bool) → descends processors ≡ b → true ≡ b
      by true d = refl
      by false d = let (e, f, g) = neighbours c l in absurd (omega (arith, ascends_at processors c d g, e, f, h))

  descends_none : ((c : ℕ) → c < nth mem 3 → nth mem (processor_at a c) ≤ nth mem (processor_at a (suc c))) → false ≡ descends (processors_of (line_in a mem))
  descends_none h =
      sym (ascend_each processors (λ i g. let l : i < nth mem 3 = omega (arith, g, processors_length mem a (nth mem 3 + 1)) in let (e, f, _) = neighbours i l in omega (arith, e, f, h i l)))

  -- It was asked of each two neighbours.
  pub descends_by : (r : Bool)
      → AnyBelow (λ c. nth mem (processor_at a (c + 1)) < nth mem (processor_at a c)) (λ c. nth mem (processor_at a c) ≤ nth mem (processor_at a (c + 1))) (nth mem 3) r
      → r ≡ descends (processors_of (line_in a mem))
  descends_by true (c, l, h) = descends_here c l (rw add-one at h)
  descends_by false h = descends_none (λ c l. rw add-one at (h c l))

-- Lines of predecessors -----------------------------------------------------------------------------------------------

-- Task t has a line in the table.
abbrev pub has_line : ℕ → List ℕ → ℕ → Bool
has_line capacity mem t = not (eqb (nth mem (line_at capacity + t)) 0)

-- Each edge of a part of some cells passes a test.
all_run : (f : Edge → Bool) (a n : ℕ) (cells : List ℕ) → ((i : ℕ) → i < n → f (edge_in (nth cells (a + i))) ≡ true) → all f (run a n cells) ≡ true
unfolding all run
all_run f a zero cells h = refl
all_run f a (suc n) cells h = rw (h n (omega arith)) (all_run f a n cells (λ i g. h i (omega arith)))

-- An edge leaves a task that has a line.
abbrev pub lined : ℕ → List ℕ → Edge → Bool
lined capacity mem e = has_line capacity mem e.from

-- The cells of a run, and what stands in those of the edges that enter task t.
abbrev cells_of : ℕ → ℕ → List ℕ → List ℕ
cells_of a b cells = take (b - a) (drop a cells)

module _ {l : Limits} {capacity : ℕ} {mem links : List ℕ} {a b : ℕ} (t : ℕ) (h : JobHeld l capacity mem) (r : Run a b links (incoming (job_in mem) t)) where
  inward_length : length (cells_of a b links) ≡ b - a
  inward_length = part_length links a (b - a) (omega (arith, r.rises, r.within))

  inward_at : (k : ℕ) → k < length (cells_of a b links) → nth (cells_of a b links) k ≡ nth links (a + k)
  inward_at k g = part_nth links a (b - a) k (omega (arith, inward_length))

  inward_in : (k : ℕ) → k < length (cells_of a b links) → In (edge_in (nth links (a + k))) (incoming (job_in mem) t)
  inward_in k g = pass_in r (a + k) (omega arith) (omega (arith, inward_length, r.rises))

  -- Each leaves a task that has its place in the table.
  pub sender_below : (x k : ℕ) → k < length (cells_of a b links) → x ≡ get_or (cells_of a b links) k x → line_at capacity + (edge_in x).from < length mem
  sender_below x k g e =
      let s = sizes h in
      let c : x ≡ nth links (a + k) = e ∙ get_or_default (cells_of a b links) k x 0 g ∙ inward_at k g in
      rw c (omega (arith, s.size, s.tasks_most, tasks_in_lem mem, h.facts.from_task _ (in_incoming (job_in mem) t _ (inward_in k g)).0))

  -- It was asked of each whether its task has a line.
  pub lined_by : (z : Bool)
      → MatchBool z (AllWithin (λ x. true ≡ lined capacity mem (edge_in x)) (cells_of a b links) 0 (length (cells_of a b links)))
      ((k : ℕ) × (k < length (cells_of a b links)) × HoldsAt (λ x. false ≡ lined capacity mem (edge_in x)) (cells_of a b links) k)
      → z ≡ all (lined capacity mem) (incoming (job_in mem) t)
  lined_by true y =
      let es = incoming (job_in mem) t in
      let each : (i : ℕ) → i < b - a → lined capacity mem (edge_in (nth links (a + i))) ≡ true = λ i g.
      let k : i < length (cells_of a b links) = omega (arith, inward_length) in
      sym (rw (inward_at i k) at (y i 0 (omega arith) k)) in
      sym (in_all (lined capacity mem) es (λ e i. all_in (lined capacity mem) e (reverse es) (rw r.edges at (all_run (lined capacity mem) a (b - a) links each)) (reverse_left e es [] i)))
  lined_by false (k, g, y) =
      let es = incoming (job_in mem) t in
      let n : lined capacity mem (edge_in (nth links (a + k))) ≡ false = sym (rw (inward_at k g) at (y 0)) in
      sym (refuted (all (lined capacity mem) es) (λ i. true≢false (sym (all_in (lined capacity mem) (edge_in (nth links (a + k))) es i (inward_in k g)) ∙ n)))

-- The tasks of the first k lines, in order.
module _ (capacity w : ℕ) (mem : List ℕ) where
  abbrev pub tasks_in : ℕ → List ℕ
  tasks_in k = map (λ n. n.task) (lines_in capacity w k mem)

  tasks_below : (k : ℕ) → tasks_in k ≡ map (λ i. nth mem (row_at capacity i)) (below k)
  tasks_below k = rw (lines_below mem capacity w k) (map-map (λ n. n.task) (λ i. line_with mem w (row_at capacity i)) (below k))

  pub row_in_tasks : (k i : ℕ) → i < k → In (nth mem (row_at capacity i)) (tasks_in k)
  row_in_tasks k i h = rw (tasks_below k) (map_in (λ i. nth mem (row_at capacity i)) i (below k) (below_in k i h))

  pub in_tasks_row : (k t : ℕ) → In t (tasks_in k) → (i : ℕ) × (i < k) × (nth mem (row_at capacity i) ≡ t)
  in_tasks_row k t m = let (i, b, e) = in_map (λ i. nth mem (row_at capacity i)) t (below k) (rw (tasks_below k) at m) in (i, in_below k i b, e)

  -- A task is in one of the lines exactly if the table has its line.
  pub has_line_lem : {l : Limits} (k t : ℕ) → LinesHeld l capacity k mem → t < nth mem 0 → has t (tasks_in k) ≡ has_line capacity mem t
  has_line_lem k t s h =
      ⊎_elim
      (λ (z : nth mem (line_at capacity + t) ≡ 0).
      has_not t (tasks_in k) (λ m.
      let r = in_tasks_row k t m in
      let e : nth mem (line_at capacity + t) ≡ suc r.0 = ap (λ (u : ℕ). nth mem (line_at capacity + u)) (sym r.2) ∙ s.line_of r.0 r.1 in
      omega arith) ∙ rw (eq-eqb (nth mem (line_at capacity + t)) 0 z))
      (λ (p : (i : ℕ) × (i < k) × (nth mem (line_at capacity + t) ≡ suc i) × (nth mem (row_at capacity i) ≡ t)).
      let n : nth mem (line_at capacity + t) ≡ 0 → ⊥ = λ z. omega (arith, p.2) in
      in_has t (tasks_in k) (rw p.3 at (row_in_tasks k p.0 p.1)) ∙ rw (ne_eqb (nth mem (line_at capacity + t)) 0 n))
      (s.placed t h)

-- The rule of a line ----------------------------------------------------------------------------------------------------

module _ {l : Limits} {capacity : ℕ} (mem : List ℕ) (a k : ℕ) (s : LinesHeld l capacity k mem) where
  abbrev seen : List Line
  seen = lines_in capacity (nth mem 3 + 1) k mem

  -- All predecessors have lines.
  abbrev fed_all : Bool
  fed_all = all (λ d. has_line capacity mem d.from) (incoming (job_in mem) (nth mem a))

  pub line_strays : true ≡ strays l (job_in mem) (line_in a mem) → 3 ≡ plan_line_rule l (job_in mem) seen (line_in a mem)
  unfolding plan_line_rule first_of
  line_strays e = rw (← e)

  -- Of a line in its ranges, with the table of lines.
  pub line_rule : false ≡ strays l (job_in mem) (line_in a mem)
      → first_of ((descends (processors_of (line_in a mem)), 11) ∷ (has_line capacity mem (nth mem a) || not fed_all, 10) ∷ []) ≡ plan_line_rule l (job_in mem) seen (line_in a mem)
  unfolding plan_line_rule first_of
  line_rule e =
      let predecessors = all_same (λ d. has d.from (tasks_in capacity (nth mem 3 + 1) mem k)) (λ d. has_line capacity mem d.from) (incoming (job_in mem) (nth mem a))
      (λ d i. has_line_lem capacity (nth mem 3 + 1) mem k d.from s (rw (tasks_in_lem mem) at (s.job.facts.from_task d (in_incoming (job_in mem) (nth mem a) d i).0))) in
      rw (← e, has_line_lem capacity (nth mem 3 + 1) mem k (nth mem a) s (strays_not l mem a (sym e)).0, predecessors)
