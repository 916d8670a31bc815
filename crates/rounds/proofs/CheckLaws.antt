-- The test for two replicas on one processor, on a plan that was read.
use Rattle.std.specs.Prelude.{if◌then◌else◌, Option, Some, None}
use Rattle.lists.proofs.Prelude.{◌≡◌, refl, ap, ◌∙◌, sym, List, [], map, Bool, true, false, not, ℕ, suc, ◌+◌, ◌-◌, ◌<◌, arith, add-zero, le-leb, not-false, leb, length, take, drop, nth, below, In, keep, distinct, Limits, Line, processors_of, descends, doubled_tasks}
use Rattle.definitions.specs.Facts.{Apart}
use Rattle.definitions.proofs.Lists.{refuted, in_map, in_below, map_in, keep_in, keep_none}
use Rattle.definitions.proofs.Guarantee.{none_kept}
use Rattle.heads.specs.Layout.{row_at}
use Rattle.plans.specs.Lines.{lines_in}
use Rattle.plans.specs.Loading.{line_in, plan_in, PlanHeld}
use Rattle.plans.proofs.Lines.{processors_length, processor_at_lem, lines_below}
use Rattle.lists.proofs.ListLaws.{part_length, part_nth}
use Rattle.jobs.proofs.Held.{sizes}
use Rattle.replicas.specs.Cells.{on_cell, next_cell, replicas_of, line_cell, lines_of, twins, twice, cells_of, first_twice, doubled_in}
use Rattle.replicas.proofs.TwiceLaws.{twins_place, twins_before, twins_apart, first_all, first_some}
use Rattle.rounds.specs.Checking.{DoubledBy}
use Rattle.rounds.proofs.PlanLines.{apart_at, ascend_apart, line_among, line_ascends}

-- Processors that do not descend stand in some cells: two neighbours are the same exactly if they do not all differ.
twins_differ : (ps cells : List ℕ) (n : ℕ) → length ps ≡ n + 1 → ((c : ℕ) → c < n + 1 → nth cells (on_cell c) ≡ nth ps c) → descends ps ≡ false → twins n cells ≡ not (distinct ps)
twins_differ ps cells n z at up = by (twins n cells) refl
  where
    next : (c : ℕ) → c < n → nth cells (next_cell c) ≡ nth ps (suc c)
    next c l = let e : next_cell c ≡ on_cell (suc c) = omega arith in ap (nth cells) e ∙ at (suc c) (omega arith)

    by : (b : Bool) → twins n cells ≡ b → b ≡ not (distinct ps)
    by true e =
        let (c, l, f) = twins_place cells n e in
        rw (refuted (distinct ps) (λ d. apart_at ps c d (omega arith) (sym (at c (omega arith)) ∙ f ∙ next c l)))
    by false e =
        rw (ascend_apart ps up (λ c l q. twins_apart cells c (twins_before cells (suc c) n (omega arith) e) (at c (omega arith) ∙ q ∙ sym (next c (omega arith)))))

-- The tasks with two replicas on one processor.
pub doubled_in_lem : (n : Line) (ns : List Line) → In n ns → not (distinct (processors_of n)) ≡ true → In n.task (doubled_tasks ns)
unfolding doubled_tasks
doubled_in_lem n ns i d = map_in (λ n. n.task) n (keep (λ n. not (distinct (processors_of n))) ns) (keep_in (λ n. not (distinct (processors_of n))) n ns i d)

doubled_none : (ns : List Line) → ((n : Line) → In n ns → not (distinct (processors_of n)) ≡ false) → doubled_tasks ns ≡ []
unfolding doubled_tasks
doubled_none ns h = ap (map (λ n. n.task)) (keep_none (λ n. not (distinct (processors_of n))) ns h)

pub none_doubled : (ns : List Line) → doubled_tasks ns ≡ [] → Apart ns
unfolding doubled_tasks
none_doubled ns h n i = not-false _ (none_kept (λ n. n.task) (λ n. not (distinct (processors_of n))) ns (rw h) n i)

-- The line that is found --------------------------------------------------------------------------------------------

module _ {lim : Limits} {capacity : ℕ} {mem : List ℕ} (h : PlanHeld lim capacity mem) (from to : ℕ) (x : from ≡ row_at capacity 0) (y : to ≡ row_at capacity (nth mem 0)) where
  -- The lines as they are looked at.
  abbrev lines : List ℕ
  lines = take (to - from) (drop from mem)

  lines_length : length lines ≡ line_cell (nth mem 0)
  lines_length =
      let s = sizes h.standing.job in
      omega (arith, part_length mem from (to - from) (omega (arith, x, y, s.size, s.tasks_most.1)), x, y)

  abbrev cells : ℕ → List ℕ
  cells k = cells_of (nth mem 3 + 1) k lines

  module _ (k : ℕ) (l : k < nth mem 0) where
    -- Cell i of line k.
    line_cell_lem : (i : ℕ) → i < line_cell 1 → nth lines (line_cell k + i) ≡ nth mem (row_at capacity k + i)
    line_cell_lem i g =
        let e : from + (line_cell k + i) ≡ row_at capacity k + i = omega arith in
        part_nth mem from (to - from) (line_cell k + i) (omega arith) ∙ ap (nth mem) e

    task_here : nth lines (line_cell k) ≡ nth mem (row_at capacity k)
    task_here = rw (add-zero (line_cell k), add-zero (row_at capacity k)) at (line_cell_lem 0 (omega arith))

    twice_here : twice (cells k) ≡ not (distinct (processors_of (line_in (row_at capacity k) mem)))
    unfolding plan_in
    twice_here =
        let s = sizes h.standing.job in
        let n : replicas_of (length (cells k)) - 1 ≡ nth mem 3 =
        omega (arith, part_length lines (line_cell k + 1) (on_cell (nth mem 3 + 1)) (omega (arith, lines_length, s.row_fits))) in
        rw n (twins_differ (processors_of (line_in (row_at capacity k) mem)) (cells k) (nth mem 3) (processors_length mem (row_at capacity k) (nth mem 3 + 1))
        (λ c g.
        let e : line_cell k + 1 + on_cell c ≡ line_cell k + (1 + on_cell c) = omega arith in
        part_nth lines (line_cell k + 1) (on_cell (nth mem 3 + 1)) (on_cell c) (omega arith) ∙ ap (nth lines) e ∙ line_cell_lem (1 + on_cell c) (omega (arith, s.row_fits))
        ∙ sym (processor_at_lem mem (row_at capacity k) (nth mem 3 + 1) c g))
        (line_ascends h.standing h.facts.ordered k l))

  pub doubled_said : (r : Option ℕ) → doubled_in r ≡ (if leb (nth mem 3 + 1) 8 then first_twice (nth mem 3 + 1) (lines_of (length lines)) lines else [])
      → DoubledBy (doubled_tasks (plan_in capacity mem).lines) (doubled_in r)
  unfolding plan_in
  doubled_said r e = by r (rw (le-leb (nth mem 3 + 1) 8 (omega (arith, (sizes h.standing.job).row_fits)), n) at e)
    where
      n : lines_of (length lines) ≡ nth mem 0
      n = omega (arith, lines_length)

      by : (r : Option ℕ) → doubled_in r ≡ first_twice (nth mem 3 + 1) (nth mem 0) lines → DoubledBy (doubled_tasks (plan_in capacity mem).lines) (doubled_in r)
      by None e =
          doubled_none (lines_in capacity (nth mem 3 + 1) (nth mem 0) mem)
          (λ n i.
          let (k, m, q) = in_map (λ i. line_in (row_at capacity i) mem) n (below (nth mem 0)) (rw (lines_below mem capacity (nth mem 3 + 1) (nth mem 0)) at i) in
          let l = in_below (nth mem 0) k m in
          rw (← q) (sym (twice_here k l) ∙ first_all (nth mem 3 + 1) lines (nth mem 0) (sym e) k l))
      by (Some t) e =
          let (k, l, f, q) = first_some (nth mem 3 + 1) lines t (nth mem 0) (sym e) in
          let s = sizes h.standing.job in
          let g : nth mem (row_at capacity k) ≡ t = sym (task_here k l) ∙ q in
          rw (← g) (
            doubled_in_lem (line_in (row_at capacity k) mem) (lines_in capacity (nth mem 3 + 1) (nth mem 0) mem) (line_among capacity k (nth mem 0) mem l) (sym (twice_here k l) ∙ f),
            omega (arith, h.standing.task_of k l, s.tasks_most.0),
          )
