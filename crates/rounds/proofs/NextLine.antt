-- A line more in memory: what stands after it, what is still to be placed, and what the free tasks' counts and priorities are.
use Rattle.lists.proofs.Prelude.{◌≡◌, refl, ap, ◌∙◌, sym, ◌⊎◌, inl, inr, ⊎_elim, List, [], ◌∷◌, ◌++◌, map, map-map, reverse, reverse_aux, Bool, true, false, not, ◌&&◌, ℕ, zero, suc, ◌+◌, ◌*◌, ◌-◌, ◌<◌, ◌≤◌, arith, add-zero, add-one, eqb-true, eqb-false, eq-eqb, ne_eqb, eqb, length, set, length-set, get_or-set_same, get_or-set_other, In, nth, keep, below, Limits, Edge, incoming, outgoing, Line, Time, least, largest, Outcome, walk, placements_of, tick_of, trial, replicas, place, plan_for, and-true}
use mathlib.Core.List.{reverse_aux-eq}
use lib.Seq.{append_snoc}
use lib.Ieee.{Float}
use Rattle.definitions.proofs.Lists.{in_map, map_same, map_keep}
use Rattle.definitions.proofs.Chosen.{chosen_count, chosen_below, chosen_distinct}
use Rattle.definitions.proofs.Shelf.{settled_walk}
use Rattle.heads.specs.Layout.{memory_size, level_at, line_at, blocked_at, priority_at, replicas_most, row_at, largest_delay_at, processor_at, early_at, late_at}
use Rattle.jobs.specs.Held.{job_in}
use Rattle.jobs.specs.Tables.{line_ticks}
use Rattle.ticks.specs.Cells.{time_in}
use Rattle.plans.specs.Lines.{row_end, replica_in, row_outcomes, placed_in, row_replicas, lines_in, LinesHeld, row_of}
use Rattle.rounds.specs.Schedule.{choice_of, PredecessorsPlaced}
use Rattle.lists.specs.Kept.{KeptOutside}
use Rattle.rounds.specs.Arrivals.{BothFinish, Ended, EndsPut}
use Rattle.ticks.specs.declared.clocks.Clocks.{Clocks}
use Rattle.rounds.specs.Planning.{waiting_in, replica_on, Taken, processors_for, Drawn, Ranked, Tried, Begun, Critical, blocking, entries}
use Rattle.rounds.specs.Clocks.{earlies_in, lates_in, finish_on, ClocksHeld}
use Rattle.lists.proofs.Counting.{equal_or_not, last_or_before}
use Rattle.jobs.proofs.Held.{processors_in, Sizes, sizes, job_kept}
use Rattle.lists.proofs.Kept.{Same, same_part, same_before}
use Rattle.plans.proofs.Lines.{lines_same, standing_next}
use Rattle.rounds.proofs.Tables.{from_below, levels_kept, far_kept, placed_kept, top_kept}
use Rattle.rounds.proofs.FreeLaws.{free_both, free_yes}
use Rattle.rounds.proofs.TimeLaws.{time_tick, round_most}
use Rattle.rounds.proofs.Placed.{predecessors_all}
use Rattle.rounds.proofs.EndLaws.{ended_same, ended_next}
use Rattle.lists.proofs.ListLaws.{keep_keep}
use Rattle.rounds.proofs.DrawLaws.{keep_swap, count_split, count_reverse, place_turn, replicas_map}
use Rattle.rounds.proofs.Drawing.{waiting_kept, free_ranked, finish_comes, waiting_at, waiting_map, free_predecessors, lines_left, rest_here, task_below, task_waits, task_predecessors}
use Rattle.rounds.proofs.Outcomes.{Comes, finish_at, in_replicas, outcome_of, outcome_on, outcomes_row, tick_back, tick_most, walk_apart}

-- The replicas of a line do not speak of its first cell.
row_replicas_lem : (d e : List ℕ) (a c : ℕ) → ((i : ℕ) → a < i → nth e i ≡ nth d i) → row_replicas a c e ≡ row_replicas a c d
unfolding row_replicas
row_replicas_lem d e a zero h = refl
row_replicas_lem d e a (suc c) h = rw (h (processor_at a c) (omega arith), h (early_at a c) (omega arith), h (late_at a c) (omega arith), row_replicas_lem d e a c h)

-- In e, d has line k besides: task t with its replicas. Beside the lines from k on only t's line changed.
pub record Laid (capacity k t : ℕ) (d e : List ℕ) : Type 0 where
  pub size : length e ≡ length d
  pub other : (i : ℕ) → (i < row_at capacity k) ⊎ (largest_delay_at capacity ≤ i) → (i ≡ line_at capacity + t → ⊥) → nth e i ≡ nth d i
  pub line : nth e (line_at capacity + t) ≡ suc k
  pub task : nth e (row_at capacity k) ≡ t
  pub replicas : row_replicas (row_at capacity k) (nth d 3 + 1) e ≡ map (replica_on capacity k d t) (processors_for capacity k t d)

module _ {lim : Limits} {capacity k t : ℕ} {d : List ℕ} (g : Critical lim capacity k t d) where
  s : Drawn lim capacity k d
  s = g.drawn

  w : Sizes lim capacity d
  w = sizes s.standing.job

  few : (t < 8 * capacity) × (k < 8 * capacity)
  few = omega (arith, task_below g, w.tasks_most, g.more)

  abbrev processors : List ℕ
  processors = processors_for capacity k t d

  processor_below : (p : ℕ) → In p processors → p < nth d 1
  processor_below p i = rw (processors_in d) at (chosen_below (job_in d) (trial (job_in d) (earlies_in capacity k d) t) (nth d 3 + 1) p i)

  pub laid : (mem : List ℕ) → Begun capacity k t processors d mem → Laid capacity k t d (set (set mem (row_at capacity k) t) (line_at capacity + t) (k + 1))
  unfolding job_in
  laid mem b =
      let one = set mem (row_at capacity k) t in
      let e = set one (line_at capacity + t) (k + 1) in
      let n : length processors ≡ nth d 3 + 1 = chosen_count (job_in d) (trial (job_in d) (earlies_in capacity k d) t) (nth d 3 + 1) w.enough in
      let (m, l) = few in
      let z : length one ≡ memory_size capacity = length-set mem (row_at capacity k) t ∙ b.kept.size ∙ w.size in
      record {
        size = length-set one (line_at capacity + t) (k + 1) ∙ z ∙ sym w.size;
        other = λ i o q. get_or-set_other one (line_at capacity + t) i (k + 1) 0 q
            ∙ ⊎_elim
            (λ l. get_or-set_other mem (row_at capacity k) i t 0 (λ f. omega arith) ∙ b.kept.before i l)
            (λ l. get_or-set_other mem (row_at capacity k) i t 0 (λ f. omega arith) ∙ b.kept.behind i l)
            o;
        line = get_or-set_same one (line_at capacity + t) (k + 1) 0 (omega arith) ∙ add-one k;
        task = get_or-set_other one (line_at capacity + t) (row_at capacity k) (k + 1) 0 (λ q. omega arith) ∙ get_or-set_same mem (row_at capacity k) t 0 (omega (arith, b.kept.size, w.size));
        replicas = ap (λ (c : ℕ). row_replicas (row_at capacity k) c e) (sym n)
            ∙ row_replicas_lem mem e (row_at capacity k) (length processors)
            (λ i p. get_or-set_other one (line_at capacity + t) i (k + 1) 0 (λ f. omega arith) ∙ get_or-set_other mem (row_at capacity k) i t 0 (λ f. omega arith))
            ∙ b.replicas;
      }

  -- The finishes that the code computes are the task's.
  pub tried : {clocks : Clocks} {early late : List ℕ} → ClocksHeld clocks (job_in d) (earlies_in capacity k d) (lates_in capacity k d)
      → BothFinish capacity t clocks.early clocks.late d early late → Tried lim capacity k t early late d
  unfolding finish_on
  tried {clocks} c f =
      let all = predecessors_all s.standing t (task_predecessors g) in
      record {
        drawn = s;
        more = g.more;
        early_size = f.early_size;
        late_size = f.late_size;
        early_finishes = λ p l. f.early_finish p l ∙ finish_at s.standing (omega arith) false t p (nth clocks.early p) all (c.early_ready p (rw (processors_in d) l));
        late_finishes = λ p l. f.late_finish p l ∙ finish_at s.standing (omega arith) true t p (nth clocks.late p) all (c.late_ready p (rw (processors_in d) l));
      }

  module _ {e : List ℕ} (x : Laid capacity k t d e) where
    -- What is as it was: the job and the levels, the largest delays, the first k lines, the other tables of tasks.
    pub laid_kept : KeptOutside (line_at capacity) (largest_delay_at capacity) d e
    laid_kept = let (m, l) = few in record {
      size = x.size;
      before = λ i h. x.other i (inl (omega arith)) (λ q. omega arith);
      behind = λ i h. x.other i (inr h) (λ q. omega arith);
    }

    pub old_rows : Same (row_at capacity 0) (row_at capacity k) d e
    old_rows = let (m, l) = few in record { cell = λ i p q. x.other i (inl q) (λ f. omega arith) }

    -- The ends of the lines with this one.
    pub ended_laid : {ends next : List Float} → Ended lim capacity k d ends → EndsPut lim (row_at capacity k) t e ends next → Ended lim capacity (k + 1) e next
    ended_laid v p =
        let (m, l) = few in
        let old = ended_same v (laid_kept.before 0 (omega arith)) (laid_kept.before 3 (omega arith)) w.row_fits old_rows in
        rw (add-one k)
        (ended_next old x.task (λ i o q.
        let here : nth d (row_at capacity i) ≡ t = sym (old_rows.cell (row_at capacity i) (omega arith) (omega arith)) ∙ q in
        let z : nth d (line_at capacity + t) ≡ suc i = rw here at (s.standing.line_of i o) in
        omega (arith, task_waits g)) p)

    pub taken : Taken capacity t d e
    taken = record { line_new = rw x.line (omega arith); other = λ i l. x.other i (inl (omega arith)) }

    line_other : (u : ℕ) → u < nth d 0 → (u ≡ t → ⊥) → nth e (line_at capacity + u) ≡ nth d (line_at capacity + u)
    line_other u l n = x.other (line_at capacity + u) (inl (omega (arith, w.tasks_most))) (λ f. n (omega arith))

    tasks_same : nth e 0 ≡ nth d 0
    tasks_same = laid_kept.before 0 (omega (arith, few))

    losses_same : nth e 3 ≡ nth d 3
    losses_same = laid_kept.before 3 (omega (arith, few))

    job_laid : job_in e ≡ job_in d
    job_laid = job_kept s.standing.job laid_kept (omega arith)

    -- What the new line's cells hold.
    new_cells : (c : ℕ) → c < nth d 3 + 1 → (nth e (processor_at (row_at capacity k) c) < nth d 1)
        × (nth e (early_at (row_at capacity k) c) ≤ suc k * line_ticks lim) × (nth e (late_at (row_at capacity k) c) ≤ suc k * line_ticks lim)
    unfolding finish_on
    new_cells c l =
        let (p, i, q) = in_map (replica_on capacity k d t) (replica_in (row_at capacity k) c e) processors (rw (← x.replicas) (in_replicas (row_at capacity k) (nth d 3 + 1) c e l)) in
        let m = processor_below p i in
        let early = tick_most (finish_comes s t p (task_predecessors g) (task_below g) m false) in
        let late = tick_most (finish_comes s t p (task_predecessors g) (task_below g) m true) in
        (rw (← ap (λ r. r.processor) q) m, rw (← ap (λ r. r.early) q) (omega arith), rw (← ap (λ r. r.late) q) (omega arith))

    -- The ticks of one line more are in range.
    ticks_in_range : suc k * line_ticks lim ≤ lim.tick
    ticks_in_range = (round_most s.standing.job.tabled (suc k) (omega (arith, g.more, w.tasks_most))).1

    standing_laid : LinesHeld lim capacity (suc k) e
    standing_laid =
        let m : nth e 1 ≡ nth d 1 = laid_kept.before 1 (omega (arith, few)) in
        standing_next s.standing g.more (task_below g) (task_waits g) x.size (same_before 0 (level_at capacity) laid_kept (omega arith)) old_rows line_other x.line x.task
        record {
          processor_of = λ c n. rw m (new_cells c (rw losses_same at n)).0;
          early_of = λ c n. inr (omega (arith, (new_cells c (rw losses_same at n)).1, ticks_in_range));
          late_of = λ c n. inr (omega (arith, (new_cells c (rw losses_same at n)).2, ticks_in_range));
        }

    -- The outcomes of the line, and of all lines with it --------------------------------------------------------------

    abbrev placed : Bool → List Outcome
    placed late = placed_in capacity late (nth d 3 + 1) k d

    -- What the definition places.
    abbrev line : Bool → List Outcome
    line late = walk (job_in d) (choice_of late) [] (placed late) (placements_of (job_in d) t processors)

    -- Task t does not feed itself, so each of its replicas is as if it were alone.
    line_apart : (late : Bool) → line late ≡ map (outcome_on (job_in d) (choice_of late) (placed late) t) processors
    line_apart late =
        walk_apart (job_in d) (choice_of late) t (λ a i q. let z : 0 < nth d (line_at capacity + t) = rw q (task_predecessors g a i) in omega (arith, task_waits g)) processors
        (chosen_distinct (job_in d) (trial (job_in d) (earlies_in capacity k d) t) (nth d 3 + 1)) (placed late)

    cell_time_lem : {y : Time} → Comes (k * line_ticks lim + line_ticks lim) y → time_in (tick_of y) ≡ y
    cell_time_lem {y} c = time_tick (tick_of y) (λ q. omega (arith, tick_most c, ticks_in_range, s.standing.job.suited.tick_fits)) ∙ tick_back c

    -- What a replica of the line says is what the walk gives.
    outcome_kind : (late : Bool) (p : ℕ) → p < nth d 1 → outcome_of late t (replica_on capacity k d t p) ≡ outcome_on (job_in d) (choice_of late) (placed late) t p
    unfolding finish_on
    outcome_kind true p l = ap (λ (y : Time). record { task = t; processor = p; time = y }) (cell_time_lem (finish_comes s t p (task_predecessors g) (task_below g) l true))
    outcome_kind false p l = ap (λ (y : Time). record { task = t; processor = p; time = y }) (cell_time_lem (finish_comes s t p (task_predecessors g) (task_below g) l false))

    placed_next : (late : Bool) → placed_in capacity late (nth e 3 + 1) (suc k) e ≡ reverse_aux (line late) (placed late)
    unfolding placed_in
    placed_next late =
        let new : row_outcomes late (row_at capacity k) (nth d 3 + 1) e ≡ reverse (line late) =
        outcomes_row late (row_at capacity k) (nth d 3 + 1) e
        ∙ rw (x.task, x.replicas) (ap reverse
        (map-map (outcome_of late t) (replica_on capacity k d t) processors
        ∙ map_same (λ p. outcome_of late t (replica_on capacity k d t p)) (outcome_on (job_in d) (choice_of late) (placed late) t) processors (λ p i. outcome_kind late p (processor_below p i))
        ∙ sym (line_apart late))) in
        rw (placed_kept s.standing.job laid_kept (omega arith) k old_rows late, losses_same, new) (sym (reverse_aux-eq (line late) (placed late)))

    -- What is left to place ---------------------------------------------------------------------------------------------

    new_line : row_replicas (row_at capacity k) (nth d 3 + 1) e ≡ replicas (line false) (line true)
    unfolding finish_on
    new_line =
        x.replicas
        ∙ sym (replicas_map (outcome_on (job_in d) least (placed false) t) (outcome_on (job_in d) largest (placed true) t) processors)
        ∙ rw (line_apart false, line_apart true)

    waiting_next : keep (λ u. not (eqb u.task t)) (waiting_in capacity d) ≡ waiting_in capacity e
    waiting_next =
        let waits_in : List ℕ → ℕ → Bool = λ mem u. eqb (nth mem (line_at capacity + u)) 0 in
        let others : ℕ → Bool = λ u. not (eqb u t) in
        ap (keep (λ u. others u.task)) (waiting_map capacity d)
        ∙ sym (map_keep (waiting_at capacity d) (λ u. others u.task) (keep (waits_in d) (below (nth d 0))))
        ∙ ap (map (waiting_at capacity d)) (keep_keep others (waits_in d) (below (nth d 0)))
        ∙ sym (waiting_kept w laid_kept (omega arith) (λ u. waits_in d u && others u) (λ u l. ⊎_elim
        (λ (q : u ≡ t). rw (q, task_waits g, eq-eqb t t refl, x.line, ne_eqb (suc k) 0 (λ z. omega arith)))
        (λ o. rw (line_other u l o, ne_eqb u t o) (sym (and-true (waits_in d u))))
        (equal_or_not u t)))

    rest_next : lines_in capacity (nth e 3 + 1) (suc k) e ++ place (job_in e) (nth e 3) (nth e 0 - suc k) (waiting_in capacity e) (earlies_in capacity (suc k) e) (lates_in capacity (suc k) e)
        ≡ (plan_for (job_in e) (nth e 3)).lines
    unfolding lines_in
    rest_next =
        let n = nth d 0 - (k + 1) in
        let m : nth d 0 - suc k ≡ n = omega arith in
        let lines = lines_in capacity (nth d 3 + 1) k d in
        let next : Line = record { task = t; replicas = replicas (line false) (line true) } in
        let others = place (job_in d) (nth d 3) n (keep (λ u. not (eqb u.task t)) (waiting_in capacity d)) (reverse_aux (line false) (placed false)) (reverse_aux (line true) (placed true)) in
        let turn : place (job_in d) (nth d 3) (suc n) (waiting_in capacity d) (placed false) (placed true) ≡ next ∷ others =
        rw (free_ranked s g.ranked, ← g.lower) at (place_turn (job_in d) (nth d 3) n (waiting_in capacity d) (placed false) (placed true) (lines_left s g.more) (nth d 0)) in
        let kept : lines_in capacity (nth e 3 + 1) k e ≡ lines =
        ap (λ (n : ℕ). lines_in capacity (n + 1) k e) losses_same ∙ lines_same d e capacity (nth d 3 + 1) k (omega (arith, w.row_fits)) old_rows in
        rw (placed_next false, placed_next true, job_laid, losses_same, tasks_same, m, ← waiting_next, kept, x.task, new_line)
        (append_snoc lines next others ∙ rw (← turn) (rest_here s g.more))

    -- k + 1 lines are drawn up.
    pub drawn_next : Drawn lim capacity (k + 1) e
    drawn_next =
        let job = s.standing.job in
        rw (add-one k)
        (record {
          standing = standing_laid;
          far = far_kept job laid_kept (omega arith) (omega arith) s.far;
          levels = levels_kept job laid_kept (omega arith) (omega arith) s.levels;
          ticks = λ i c l m.
              let n : c < nth d 3 + 1 = rw losses_same at m in
              let cells : c < replicas_most = omega (arith, w.row_fits) in
              ⊎_elim
              (λ (q : i ≡ k). rw q ((new_cells c n).1, (new_cells c n).2))
              (λ q.
              let (y, z) = s.ticks i c q n in
              rw (old_rows.cell (early_at (row_at capacity i) c) (omega arith) (omega arith), old_rows.cell (late_at (row_at capacity i) c) (omega arith) (omega arith)) (omega arith))
              (last_or_before k i l);
          settled = λ late. rw (placed_next late, job_laid) (settled_walk (job_in d) (choice_of late) [] (placed late) (placements_of (job_in d) t processors) (s.settled late));
          rest = rest_next;
        })

    -- Counts and priorities ---------------------------------------------------------------------------------------------

    -- The edges that block u: those before the line are those after it, and those from t to u.
    blocking_next : (u : ℕ) → blocking capacity d u ≡ length (keep (λ a. eqb (nth e (line_at capacity + a.from)) 0) (incoming (job_in d) u)) + entries u (reverse (outgoing (job_in d) t))
    unfolding incoming outgoing keep
    blocking_next u =
        let f : Edge → Bool = λ a. eqb (nth d (line_at capacity + a.from)) 0 in
        let h : Edge → Bool = λ a. eqb (nth e (line_at capacity + a.from)) 0 in
        let from : Edge → Bool = λ a. eqb a.from t in
        let to : Edge → Bool = λ a. eqb a.to u in
        let es = (job_in d).edges in
        let back : entries u (reverse (keep from es)) ≡ length (keep from (keep to es)) =
        count_reverse to (keep from es) [] ∙ add-zero (length (keep to (keep from es))) ∙ ap length (keep_swap to from es) in
        count_split f h from (keep to es) (λ a i. (
          λ b. rw (eqb-true a.from t b, task_waits g, x.line) (refl, ne_eqb (suc k) 0 (λ z. omega arith)),
          λ b. rw (line_other a.from (from_below s.standing.job u a i) (eqb-false a.from t b)),
        ))
        ∙ ap (λ (n : ℕ). length (keep h (keep to es)) + n) (sym back)

    -- The line is of no predecessor of a task whose predecessors are placed.
    from_same : (u : ℕ) → PredecessorsPlaced capacity u d → (a : Edge) → In a (incoming (job_in d) u)
        → (nth e (line_at capacity + a.from) ≡ nth d (line_at capacity + a.from)) × Same (row_of capacity a.from d) (row_end (row_of capacity a.from d)) d e
    from_same u f a i =
        let (l, m) = predecessors_all s.standing u f a i in (
          line_other a.from (from_below s.standing.job u a i) (λ q. let z : 0 < nth d (line_at capacity + t) = rw q at l in omega (arith, task_waits g)),
          same_part (row_of capacity a.from d) _ old_rows (omega arith) (omega arith),
        )

    pub ranked_next : Ranked capacity (reverse (outgoing (job_in e) t)) e
    unfolding keep
    ranked_next =
        let m = few in
        record {
          blocked = λ u l.
              let b : u < nth d 0 = rw tasks_same at l in
              rw (job_laid, x.other (blocked_at capacity + u) (inl (omega (arith, w.tasks_most))) (λ q. omega arith)) (g.ranked.blocked u b ∙ add-zero _ ∙ blocking_next u);
          priorities = λ u l f.
              let b : u < nth d 0 = rw tasks_same at l in
              let most : nth d 0 ≤ 8 * capacity = w.tasks_most.1 in
              let (y, z) = free_both capacity e u f in
              let line = line_other u b (λ q. let o : nth e (line_at capacity + t) ≡ 0 = rw q at y in omega (arith, x.line)) in
              let free = free_yes capacity d u (sym line ∙ y) (sym (x.other (blocked_at capacity + u) (inl (omega arith)) (λ q. omega arith)) ∙ z) in
              rw (
                x.other (priority_at capacity + u) (inl (omega arith)) (λ q. omega arith),
                top_kept s.standing.job laid_kept (omega arith) (omega arith) u (from_same u (free_predecessors s g.ranked u b free)),
                job_laid,
                laid_kept.before (level_at capacity + u) (omega arith),
              ) (g.ranked.priorities u b free);
        }
