-- The memory while a plan is drawn up: its ticks, a line more, and what a change elsewhere leaves as it was.
use Rattle.lists.proofs.Prelude.{◌≡◌, refl, ap, ◌∙◌, sym, ⊎_elim, List, [], ◌∷◌, ◌++◌, map, map-map, map-append, append-nil, Bool, true, false, not, ◌&&◌, ℕ, zero, suc, ◌+◌, ◌*◌, ◌-◌, ◌<◌, ◌≤◌, min, arith, add-zero, add-one, eqb-false, eq-eqb, ne_eqb, lt-ltb, not-true, eqb, ltb, length, set, take, take_all, take-suc, length-take-le, length-append, length-map, length-set, get_or-set_same, get_or-set_other, get_or-take, nth, keep, all, has, below, Limits, Edge, run_time, incoming, data_ready, start, stop_time, finish, placement_of, tick_of, Waiting, free_tasks, ranked, trial, place, plan_for}
use Rattle.definitions.proofs.Lists.{in_map, in_keep, map_same, map_keep, in_below, all_in}
use Rattle.definitions.proofs.Placing.{placed_count}
use Rattle.definitions.proofs.Chosen.{chosen_count}
use Rattle.choices.specs.Choices.{chosen_of, Begins}
use Rattle.heads.specs.Layout.{level_at, line_at, blocked_at, priority_at, row_at, largest_delay_at, processor_at, early_at, late_at, replica_end}
use Rattle.jobs.specs.Held.{job_in}
use Rattle.jobs.specs.Tables.{message_most, line_ticks}
use Rattle.plans.specs.Lines.{replica_in, placed_in, row_replicas, lines_in}
use Rattle.rounds.specs.Schedule.{choice_of, PredecessorsPlaced}
use Rattle.lists.specs.Kept.{KeptOutside}
use Rattle.rounds.specs.Planning.{is_free, blocking, free_in, FreeList, waiting_in, replica_on, Drawn, Ranked, Critical, Tried, processors_for, Wrote, Begun}
use Rattle.rounds.specs.Clocks.{earlies_in, lates_in, finish_on}
use Rattle.lists.proofs.Counting.{zero_or_more}
use Rattle.jobs.proofs.Held.{tasks_in_lem, processors_in, Sizes, sizes, job_kept}
use Rattle.lists.proofs.Kept.{Same, same_before, same_behind, kept_all, kept_set, kept_then, kept_wider}
use Rattle.plans.proofs.Lines.{replicas_same, lines_same, standing_choice}
use Rattle.rounds.proofs.Tables.{from_below, levels_kept, far_kept, placed_kept}
use Rattle.rounds.proofs.Placed.{has_placed, predecessors_all, level_placed, data_placed}
use Rattle.lists.proofs.ListLaws.{keep_same, keep_keep, all_same}
use Rattle.rounds.proofs.FreeLaws.{free_both}
use Rattle.rounds.proofs.DrawLaws.{chosen_same, chosen_nth, trial_nth, none_kept, some_free, critical_in, waiting_from_lem}
use Rattle.rounds.proofs.Outcomes.{Comes, comes_wider, comes_after, comes_later, ready_comes, short_most, cells_most, all_come, data_comes}

-- The cells of a line -----------------------------------------------------------------------------------------------

module _ {lim : Limits} {capacity k : ℕ} {mem : List ℕ} (s : Drawn lim capacity k mem) where
  abbrev wide : ℕ
  wide = nth mem 3 + 1

  module _ (t p : ℕ) (f : PredecessorsPlaced capacity t mem) (ht : t < nth mem 0) (hp : p < nth mem 1) where
    -- The finish of t on p.
    pub finish_comes : (late : Bool) → Comes (k * line_ticks lim + line_ticks lim) (finish (job_in mem) (choice_of late) [] (placed_in capacity late wide k mem) (placement_of (job_in mem) t p))
    unfolding finish start stop_time
    finish_comes late =
        let r = s.standing.job.facts.run_most t p (rw (tasks_in_lem mem) ht) (rw (processors_in mem) hp) in
        let b = predecessors_all s.standing t f in
        let d : Comes (k * line_ticks lim + message_most lim) (data_ready (job_in mem) (choice_of late) (placed_in capacity late wide k mem) t p) =
        rw (← data_placed s.standing k t (omega arith) b late p)
        (data_comes s.standing t p (k * line_ticks lim) f hp (omega (arith, short_most s.standing (omega arith) s.ticks))
        (λ late e c i l. let (g, m) = b e i in cells_most s.standing (omega arith) s.ticks late (nth mem (line_at capacity + e.from) - 1) c (omega arith) l) late) in
        let a = comes_wider {c = k * line_ticks lim + message_most lim} (omega arith)
        (ready_comes (job_in mem) p (k * line_ticks lim) (placed_in capacity late wide k mem) (all_come s.standing (omega arith) s.ticks late)) in
        comes_wider (omega arith) (comes_after lim.run_time (run_time (job_in mem) t p) r (comes_later a d))

-- What a change elsewhere leaves as it was --------------------------------------------------------------------------

-- Task t as it waits.
abbrev pub waiting_at : ℕ → List ℕ → ℕ → Waiting
waiting_at capacity mem t = record { task = t; bottom = nth mem (level_at capacity + t) }

pub waiting_map : (capacity : ℕ) (mem : List ℕ) → waiting_in capacity mem ≡ map (waiting_at capacity mem) (keep (λ t. eqb (nth mem (line_at capacity + t)) 0) (below (nth mem 0)))
unfolding waiting_in
waiting_map capacity mem =
    rw (waiting_from_lem (λ t. nth mem (level_at capacity + t)) 0 (nth mem 0))
    (sym (map_keep (waiting_at capacity mem) (λ w. eqb (nth mem (line_at capacity + w.task)) 0) (below (nth mem 0))))

-- The levels are as they were, and the tasks that f keeps wait.
pub waiting_kept : {lim : Limits} {capacity low high : ℕ} {d e : List ℕ} → Sizes lim capacity d → KeptOutside low high d e → line_at capacity ≤ low
    → (f : ℕ → Bool) → ((t : ℕ) → t < nth d 0 → eqb (nth e (line_at capacity + t)) 0 ≡ f t) → waiting_in capacity e ≡ map (waiting_at capacity d) (keep f (below (nth d 0)))
waiting_kept {capacity} {d = d} {e} w c a f g =
    let v = nth d 0 in
    waiting_map capacity e
    ∙ rw (c.before 0 (omega arith), keep_same (λ t. eqb (nth e (line_at capacity + t)) 0) f (below v) (λ t i. g t (in_below v t i)))
    (map_same (waiting_at capacity e) (waiting_at capacity d) (keep f (below v))
    (λ t i. rw (c.before (level_at capacity + t) (omega (arith, in_below v t (in_keep f t (below v) i).0)))))

-- A change among what serves the choice of a task.
pub drawn_choice : {lim : Limits} {capacity k : ℕ} {d e : List ℕ} → KeptOutside (blocked_at capacity) (row_at capacity 0) d e → Drawn lim capacity k d → Drawn lim capacity k e
drawn_choice {capacity} {k} {d} {e} c s =
    let h = s.standing.job in
    let w = sizes h in
    let r : Same (row_at capacity 0) (row_at capacity k) d e = same_behind (row_at capacity 0) (row_at capacity k) c (omega arith) in
    let l : nth e 3 ≡ nth d 3 = c.before 3 (omega arith) in
    record {
      standing = standing_choice c s.standing (omega arith) (omega arith);
      far = far_kept h c (omega arith) (omega arith) s.far;
      levels = levels_kept h c (omega arith) (omega arith) s.levels;
      ticks = λ i x g m.
          let n : x < nth d 3 + 1 = rw l at m in
          rw (c.behind (early_at (row_at capacity i) x) (omega arith), c.behind (late_at (row_at capacity i) x) (omega arith)) (s.ticks i x g n);
      settled = λ late. rw (placed_kept h c (omega arith) k r late, job_kept h c (omega arith)) (s.settled late);
      rest =
          rw (
            placed_kept h c (omega arith) k r false,
            placed_kept h c (omega arith) k r true,
            l,
            c.before 0 (omega arith),
            job_kept h c (omega arith),
            waiting_kept w c (omega arith) (λ t. eqb (nth d (line_at capacity + t)) 0) (λ t g. rw (c.before (line_at capacity + t) (omega arith))) ∙ sym (waiting_map capacity d),
            lines_same d e capacity (nth d 3 + 1) k (omega (arith, w.row_fits)) r,
          ) s.rest;
    }

-- A line that is begun ----------------------------------------------------------------------------------------------

pub wrote : (a c p early late : ℕ) (d : List ℕ) → replica_end a c ≤ length d
    → Wrote a c p early late d (set (set (set d (processor_at a c) p) (early_at a c) early) (late_at a c) late)
wrote a c p early late d h =
    let one = set d (processor_at a c) p in
    let two = set one (early_at a c) early in
    let x : length one ≡ length d = length-set d (processor_at a c) p in
    let y : length two ≡ length one = length-set one (early_at a c) early in
    record {
      kept = kept_set (late_at a c) late (kept_set (early_at a c) early (kept_set (processor_at a c) p kept_all (omega arith) (omega arith)) (omega arith) (omega arith)) (omega arith) (omega arith);
      processor = get_or-set_other two (late_at a c) (processor_at a c) late 0 (λ q. omega arith) ∙ get_or-set_other one (early_at a c) (processor_at a c) early 0 (λ q. omega arith)
          ∙ get_or-set_same d (processor_at a c) p 0 (omega arith);
      early_finish = get_or-set_other two (late_at a c) (early_at a c) late 0 (λ q. omega arith) ∙ get_or-set_same one (early_at a c) early 0 (omega arith);
      late_finish = get_or-set_same two (late_at a c) late 0 (omega arith);
    }

pub begun_none : {capacity k t : ℕ} {d : List ℕ} → Begun capacity k t [] d d
unfolding row_replicas
begun_none = record { kept = kept_all; replicas = refl }

-- Replica by replica.
module _ {lim : Limits} {capacity k t : ℕ} {early late : List ℕ} {d : List ℕ} (o : Tried lim capacity k t early late d) where
  -- The processors of the line.
  abbrev ps : List ℕ
  ps = processors_for capacity k t d

  -- They are as many as the line has replicas, and those of least finish.
  processors_count : length ps ≡ nth d 3 + 1
  unfolding job_in
  processors_count = chosen_count (job_in d) (trial (job_in d) (earlies_in capacity k d) t) (nth d 3 + 1) (sizes o.drawn.standing.job).enough

  processors_same : chosen_of (nth d 3 + 1) (nth d 1) early ≡ ps
  unfolding job_in finish_on
  processors_same =
      chosen_same (job_in d) (nth d 3 + 1) early (trial (job_in d) (earlies_in capacity k d) t)
      (λ q l. ap tick_of (o.early_finishes q l) ∙ sym (trial_nth (job_in d) (earlies_in capacity k d) t q l))

  -- The line has its cells.
  few_tasks : k < 8 * capacity
  few_tasks = omega (arith, o.more, (sizes o.drawn.standing.job).tasks_most)

  -- With all of them the line is begun.
  pub replicas_all : {c : ℕ} {mem : List ℕ} → c ≡ nth d 3 + 1 → Begun capacity k t (take c ps) d mem → Begun capacity k t ps d mem
  replicas_all {c} e b = rw (take_all c ps (omega (arith, e, processors_count))) at b

  -- The list of those chosen begins with them.
  module _ {list : List ℕ} (b : Begins (chosen_of (nth d 3 + 1) (min (nth d 1) 16) early) list) where
    pub list_room : nth d 3 + 1 ≤ length list
    list_room = let s = sizes o.drawn.standing.job in omega (arith, b.size, s.lanes_fit, s.enough)

    pub list_taken : length (take (nth d 3 + 1) list) ≡ nth d 3 + 1
    list_taken = length-take-le (nth d 3 + 1) list list_room

    -- Replica c has its processor there, and that is one of the job.
    module _ {c : ℕ} (l : c < length (take (nth d 3 + 1) list)) where
      pub replica_wanted : c < nth d 3 + 1
      replica_wanted = rw list_taken at l

      pub replica_on_lem : nth (take (nth d 3 + 1) list) c ≡ nth ps c
      replica_on_lem =
          let e : min (nth d 1) 16 ≡ nth d 1 = omega (arith, (sizes o.drawn.standing.job).lanes_fit) in
          get_or-take (nth d 3 + 1) list c 0 replica_wanted ∙ (rw (e, processors_same) at b).each c (omega (arith, replica_wanted, processors_count))

      pub replica_lane : nth (take (nth d 3 + 1) list) c < nth d 1
      unfolding job_in
      replica_lane = rw replica_on_lem (chosen_nth (job_in d) (nth d 3 + 1) (trial (job_in d) (earlies_in capacity k d) t) c (omega (arith, replica_wanted, processors_count)))

  module _ {c : ℕ} (l : c < nth d 3 + 1) where
    -- The first c replicas are there: there is room for one more, and it is there.
    module _ {mem : List ℕ} (b : Begun capacity k t (take c ps) d mem) where
      pub replica_within : replica_end (row_at capacity k) c ≤ length mem
      replica_within = omega (arith, l, few_tasks, sizes o.drawn.standing.job, b.kept.size, o.drawn.standing.job.size)

      pub replica_more : {p : ℕ} {e : List ℕ} → p < nth d 1 → p ≡ nth ps c → Wrote (row_at capacity k) c p (nth early p) (nth late p) mem e
          → Begun capacity k t (take (c + 1) ps) d e
      unfolding row_replicas finish_on
      replica_more {p} {e} g q x =
          let at = row_at capacity k in
          let low = few_tasks in
          let w = sizes o.drawn.standing.job in
          let n : length (take c ps) ≡ c = length-take-le c ps (omega (arith, l, processors_count)) in
          let more : length (take c ps ++ p ∷ []) ≡ suc c = length-append (take c ps) (p ∷ []) ∙ rw n (add-one c) in
          let new : replica_in at c e ≡ replica_on capacity k d t p = rw (x.processor, x.early_finish, x.late_finish, ← o.early_finishes p g, ← o.late_finishes p g) in
          let old = replicas_same mem e at c (same_before at (processor_at at c) x.kept (omega arith)) in
          rw (add-one c, take-suc ps c 0 (omega (arith, l, processors_count)), ← q) (record {
            kept = kept_then b.kept (kept_wider at (largest_delay_at capacity) x.kept (omega arith) (omega arith));
            replicas = rw (more, old, new, rw n at b.replicas) (sym (map-append (replica_on capacity k d t) (take c ps) (p ∷ [])));
          })

-- The free tasks ----------------------------------------------------------------------------------------------------

-- A task that no edge blocks has its predecessors placed.
pub predecessors_none : (capacity t : ℕ) (mem : List ℕ) → blocking capacity mem t ≡ 0 → PredecessorsPlaced capacity t mem
predecessors_none capacity t mem h e i =
    let blocks : Edge → Bool = λ e. eqb (nth mem (line_at capacity + e.from)) 0 in
    let every : all (λ e. not (blocks e)) (incoming (job_in mem) t) ≡ true = sym (none_kept blocks (incoming (job_in mem) t)) ∙ eq-eqb (length (keep blocks (incoming (job_in mem) t))) 0 h in
    let n = eqb-false (nth mem (line_at capacity + e.from)) 0 (not-true (blocks e) (all_in (λ e. not (blocks e)) e (incoming (job_in mem) t) every i)) in
    ⊎_elim (λ z. absurd (n z)) (λ l. l) (zero_or_more (nth mem (line_at capacity + e.from)))

some_test : (x : ℕ) → ltb 0 x ≡ not (eqb x 0)
some_test x = ⊎_elim (λ (e : x ≡ 0). rw e) (λ h. lt-ltb 0 x h ∙ sym (ap not (ne_eqb x 0 (λ e. omega arith)))) (zero_or_more x)

module _ {lim : Limits} {capacity k : ℕ} {mem : List ℕ} (s : Drawn lim capacity k mem) (r : Ranked capacity [] mem) where
  -- A task's predecessors are all placed exactly if no edge blocks it.
  predecessors_test : (t : ℕ) → t < nth mem 0 → all (λ e. has e.from (map (λ d. d.task) (earlies_in capacity k mem))) (incoming (job_in mem) t) ≡ eqb (nth mem (blocked_at capacity + t)) 0
  unfolding keep
  predecessors_test t h =
      let blocks : Edge → Bool = λ e. eqb (nth mem (line_at capacity + e.from)) 0 in
      let n : nth mem (blocked_at capacity + t) ≡ length (keep blocks (incoming (job_in mem) t)) = r.blocked t h ∙ add-zero (length (keep blocks (incoming (job_in mem) t))) in
      all_same (λ e. has e.from (map (λ d. d.task) (earlies_in capacity k mem))) (λ e. not (blocks e)) (incoming (job_in mem) t)
      (λ e i. has_placed s.standing false (nth mem 3 + 1) e.from (omega arith) (from_below s.standing.job t e i)
      ∙ some_test (nth mem (line_at capacity + e.from)))
      ∙ sym (none_kept blocks (incoming (job_in mem) t)) ∙ ap (λ (x : ℕ). eqb x 0) (sym n)

  free_tasks_lem : free_tasks (job_in mem) (earlies_in capacity k mem) (waiting_in capacity mem) ≡ map (waiting_at capacity mem) (keep (is_free capacity mem) (below (nth mem 0)))
  unfolding free_tasks
  free_tasks_lem =
      let predecessors : Waiting → Bool = λ w. all (λ e. has e.from (map (λ d. d.task) (earlies_in capacity k mem))) (incoming (job_in mem) w.task) in
      let waits : ℕ → Bool = λ t. eqb (nth mem (line_at capacity + t)) 0 in
      let ts = below (nth mem 0) in
      ap (keep predecessors) (waiting_map capacity mem) ∙ sym (map_keep (waiting_at capacity mem) predecessors (keep waits ts))
      ∙ ap (map (waiting_at capacity mem))
      (keep_keep (λ t. predecessors (waiting_at capacity mem t)) waits ts
      ∙ keep_same (λ t. waits t && predecessors (waiting_at capacity mem t)) (is_free capacity mem) ts (λ t i. ap (λ (b : Bool). waits t && b) (predecessors_test t (in_below (nth mem 0) t i))))

  -- A free task has its predecessors placed.
  pub free_predecessors : (t : ℕ) → t < nth mem 0 → is_free capacity mem t ≡ true → PredecessorsPlaced capacity t mem
  free_predecessors t l f = predecessors_none capacity t mem (omega (arith, r.blocked t l, free_both capacity mem t f))

  pub free_ranked : map (ranked (job_in mem) (earlies_in capacity k mem)) (free_tasks (job_in mem) (earlies_in capacity k mem) (waiting_in capacity mem)) ≡ free_in capacity mem
  unfolding free_in ranked
  free_ranked =
      let ts = keep (is_free capacity mem) (below (nth mem 0)) in
      ap (map (ranked (job_in mem) (earlies_in capacity k mem))) free_tasks_lem
      ∙ map-map (ranked (job_in mem) (earlies_in capacity k mem)) (waiting_at capacity mem) ts
      ∙ map_same (λ t. ranked (job_in mem) (earlies_in capacity k mem) (waiting_at capacity mem t)) (λ t. (t, nth mem (priority_at capacity + t))) ts
      (λ t i.
      let (a, b) = in_keep (is_free capacity mem) t (below (nth mem 0)) i in
      let l = in_below (nth mem 0) t a in
      let top = level_placed s.standing k t (omega arith) (predecessors_all s.standing t (free_predecessors t l b)) s.far in
      ap (λ (x : ℕ). (t, x)) (ap (◌+ nth mem (level_at capacity + t)) top ∙ sym (r.priorities t l b)))

lines_length : (capacity : ℕ) (w k : ℕ) (mem : List ℕ) → length (lines_in capacity w k mem) ≡ k
unfolding lines_in
lines_length capacity w zero mem = refl
lines_length capacity w (suc k) mem = length-append (lines_in capacity w k mem) _ ∙ ap (◌+ 1) (lines_length capacity w k mem) ∙ add-one k

module _ {lim : Limits} {capacity k : ℕ} {mem : List ℕ} (s : Drawn lim capacity k mem) (h : k < nth mem 0) where
  -- The lines that are still to be placed.
  abbrev left : ℕ
  left = nth mem 0 - (k + 1)

  pub rest_here : lines_in capacity (nth mem 3 + 1) k mem ++ place (job_in mem) (nth mem 3) (suc left) (waiting_in capacity mem) (earlies_in capacity k mem) (lates_in capacity k mem) ≡ (plan_for (job_in mem)
      (nth mem 3)).lines
  rest_here = let turns : nth mem 0 - k ≡ suc left = omega arith in rw turns at s.rest

  pub lines_left : 0 < length (place (job_in mem) (nth mem 3) (suc left) (waiting_in capacity mem) (earlies_in capacity k mem) (lates_in capacity k mem))
  unfolding job_in
  lines_left =
      let all = place (job_in mem) (nth mem 3) (suc left) (waiting_in capacity mem) (earlies_in capacity k mem) (lates_in capacity k mem) in
      let n : length (lines_in capacity (nth mem 3 + 1) k mem) + length all ≡ nth mem 0 =
      sym (length-append (lines_in capacity (nth mem 3 + 1) k mem) all) ∙ ap length rest_here ∙ placed_count lim (job_in mem) s.standing.job.facts in
      omega (arith, lines_length capacity (nth mem 3 + 1) k mem)

-- The critical task is one of the free tasks.
module _ {lim : Limits} {capacity k t : ℕ} {mem : List ℕ} (g : Critical lim capacity k t mem) where
  critical_free : (t < nth mem 0) × (is_free capacity mem t ≡ true)
  unfolding free_in
  critical_free =
      let ts = keep (is_free capacity mem) (below (nth mem 0)) in
      let free = free_tasks (job_in mem) (earlies_in capacity k mem) (waiting_in capacity mem) in
      let some = some_free (job_in mem) (nth mem 3) _ (waiting_in capacity mem) (earlies_in capacity k mem) (lates_in capacity k mem) (lines_left g.drawn g.more) in
      let more : 0 < length (free_in capacity mem) = rw (← free_ranked g.drawn g.ranked, length-map free (ranked (job_in mem) (earlies_in capacity k mem))) some in
      let (x, i, f) = in_map (λ y. y.0) t (free_in capacity mem) (rw g.lower (critical_in (nth mem 0) (free_in capacity mem) more)) in
      let (u, o, e) = in_map (λ t. (t, nth mem (priority_at capacity + t))) x ts i in
      let q : u ≡ t = ap (λ y. y.0) e ∙ f in
      let (a, b) = in_keep (is_free capacity mem) t (below (nth mem 0)) (rw q at o) in
      (in_below (nth mem 0) t a, b)

  pub task_below : t < nth mem 0
  task_below = critical_free.0

  pub task_waits : nth mem (line_at capacity + t) ≡ 0
  task_waits = (free_both capacity mem t critical_free.1).0

  pub task_predecessors : PredecessorsPlaced capacity t mem
  task_predecessors = free_predecessors g.drawn g.ranked t task_below critical_free.1

-- The list of free tasks is not empty while lines are left.
pub listed_some : {lim : Limits} {capacity k : ℕ} {mem : List ℕ} → Drawn lim capacity k mem → Ranked capacity [] mem → k < nth mem 0 → (cells : List ℕ) → FreeList capacity cells mem → 0 < length cells
listed_some s r h cells f =
    let (a, b) = critical_free (record { drawn = s; ranked = r; more = h; lower = refl }) in
    let (k, l, e) = f.tasks.every _ a b in
    omega arith

-- With a line for each task the lines are the plan's.
pub drawn_lines : {lim : Limits} {capacity : ℕ} {mem : List ℕ} → Drawn lim capacity (nth mem 0) mem → lines_in capacity (nth mem 3 + 1) (nth mem 0) mem ≡ (plan_for (job_in mem) (nth mem 3)).lines
unfolding place
drawn_lines {capacity} {mem} s =
    let none : nth mem 0 - nth mem 0 ≡ 0 = omega arith in
    sym (append-nil (lines_in capacity (nth mem 3 + 1) (nth mem 0) mem)) ∙ (rw none at s.rest)
