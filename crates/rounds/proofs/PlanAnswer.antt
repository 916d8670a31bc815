-- The planner's answer: the plan in memory is the one of the definition, and it is written if it fits.
use Rattle.lists.proofs.Prelude.{◌≡◌, ap, ◌∙◌, sym, ⊎_elim, List, [], Bool, true, false, true≢false, ℕ, ◌+◌, ◌≤◌, arith, eqb-true, length, set, length-set, get_or-set_same, get_or-set_other, nth, Limits, Plan, plan_text, makespan, doubled_tasks, ticks_agree, bounds_agree, plan_for, planned}
use Rattle.definitions.proofs.Placing.{placed_apart, placed_agrees, placed_bounds}
use Rattle.definitions.specs.Claims.{Roomy}
use Rattle.definitions.proofs.Claims.{own_facts, own_fits}
use Rattle.heads.specs.Layout.{memory_size, level_at, lower_at, upper_at, row_at}
use Rattle.jobs.specs.Held.{job_in, JobHeld, LinksHeld}
use Rattle.ticks.specs.Cells.{time_in}
use Rattle.plans.specs.Lines.{placed_in, lines_in, LinesHeld}
use Rattle.rounds.specs.Schedule.{choice_of}
use Rattle.lists.specs.Kept.{KeptOutside}
use Rattle.rounds.specs.Planning.{Drawn}
use Rattle.plans.specs.Loading.{plan_in, PlanHeld}
use Rattle.lists.proofs.Counting.{equal_or_not}
use Rattle.jobs.proofs.Held.{links_kept, sizes, job_kept, held_kept}
use Rattle.plans.proofs.Lines.{lines_same, standing_choice}
use Rattle.rounds.proofs.Tables.{placed_kept}
use Rattle.lists.proofs.Kept.{Same, same_behind, kept_all, kept_set}
use Rattle.rounds.proofs.Drawing.{drawn_lines}
use Rattle.rounds.proofs.Bounds.{lower_differs, upper_decides}

-- The plan of the job in d was drawn up in mem.
module _ {lim : Limits} {capacity : ℕ} {d mem : List ℕ} (h : JobHeld lim capacity d) (w : KeptOutside (level_at capacity) (memory_size capacity) d mem × Drawn lim capacity (nth d 0) mem) where
  all : Drawn lim capacity (nth mem 0) mem
  all = rw (w.0.before 0 (omega arith)) w.1

  pub bounds_asked : {links : List ℕ} → LinksHeld d links → LinesHeld lim capacity (nth mem 0) mem × LinksHeld mem links
  bounds_asked l = (all.standing, links_kept h w.0 (omega arith) l)

  abbrev own : Plan
  own = plan_for (job_in mem) (job_in mem).losses

  own_lines : lines_in capacity (nth mem 3 + 1) (nth mem 0) mem ≡ own.lines
  unfolding job_in
  own_lines = drawn_lines all

  -- Then M* and M are stored.
  module _ (x y : ℕ) where
    abbrev ended : List ℕ
    ended = set (set mem (lower_at capacity) x) (upper_at capacity) y

    ended_kept : KeptOutside (lower_at capacity) (row_at capacity 0) mem ended
    ended_kept = kept_set (upper_at capacity) y (kept_set (lower_at capacity) x kept_all (omega arith) (omega arith)) (omega arith) (omega arith)

    pub ended_held : JobHeld lim capacity ended
    ended_held = held_kept all.standing.job ended_kept (omega arith)

    ended_job : job_in ended ≡ job_in mem
    ended_job = job_kept all.standing.job ended_kept (omega arith)

    rows_kept : Same (row_at capacity 0) (row_at capacity (nth mem 0)) mem ended
    rows_kept = same_behind (row_at capacity 0) (row_at capacity (nth mem 0)) ended_kept (omega arith)

    ended_plan : plan_in capacity ended ≡ record { lower = x; upper = y; lines = own.lines }
    unfolding plan_in
    ended_plan =
        let one = set mem (lower_at capacity) x in
        let size = all.standing.job.size in
        rw (
          get_or-set_other one (upper_at capacity) (lower_at capacity) y 0 (λ q. omega arith) ∙ get_or-set_same mem (lower_at capacity) x 0 (omega arith),
          get_or-set_same one (upper_at capacity) y 0 (omega (arith, length-set mem (lower_at capacity) x)),
          ended_kept.before 3 (omega arith),
          ended_kept.before 0 (omega arith),
          lines_same mem ended capacity (nth mem 3 + 1) (nth mem 0) (omega (arith, sizes all.standing.job)) rows_kept,
          own_lines,
        )

    ended_end : (late : Bool) → makespan (job_in ended) (choice_of late) (placed_in capacity late (nth ended 3 + 1) (nth ended 0) ended)
        ≡ makespan (job_in mem) (choice_of late) (placed_in capacity late (nth mem 3 + 1) (nth mem 0) mem)
    ended_end late = rw (ended_job, ended_kept.before 0 (omega arith), placed_kept all.standing.job ended_kept (omega arith) (nth mem 0) rows_kept late)

  -- With M* and M of the definition it is the plan, and the checker's tests would find no fault.
  abbrev whole : List ℕ
  whole = ended own.lower own.upper

  whole_plan : plan_in capacity whole ≡ own
  whole_plan = ended_plan own.lower own.upper

  whole_held : Roomy lim → PlanHeld lim capacity whole
  whole_held roomy =
      let kept = ended_kept own.lower own.upper in
      record {
        standing = rw (kept.before 0 (omega arith)) (standing_choice kept all.standing (omega arith) (omega arith));
        facts = rw (ended_job own.lower own.upper, whole_plan) (own_facts lim (job_in mem) all.standing.job.facts roomy);
      }

  whole_agrees : (doubled_tasks (plan_in capacity whole).lines ≡ []) × (ticks_agree (job_in whole) (plan_in capacity whole).lines ≡ true) × (bounds_agree (job_in whole) (plan_in capacity whole) ≡ true)
  whole_agrees =
      let facts = all.standing.job.facts in
      rw (ended_job own.lower own.upper, whole_plan)
      (placed_apart lim (job_in mem) facts, placed_agrees lim (job_in mem) facts, placed_bounds lim (job_in mem) facts)

  -- So the ends of what is placed are its M* and M.
  module _ (roomy : Roomy lim) (x y : ℕ) (f : time_in x ≡ makespan (job_in mem) (choice_of false) (placed_in capacity false (nth mem 3 + 1) (nth mem 0) mem))
      (g : time_in y ≡ makespan (job_in mem) (choice_of true) (placed_in capacity true (nth mem 3 + 1) (nth mem 0) mem)) where
    ends_found : (x ≡ own.lower) × (y ≡ own.upper)
    unfolding plan_in
    ends_found =
        let (one, ticks, makespans) = whole_agrees in
        let early = f ∙ sym (ended_end own.lower own.upper false) in
        let late = g ∙ sym (ended_end own.lower own.upper true) in
        let lower = ⊎_elim (λ q. q) (λ n. absurd (true≢false (sym (lower_differs (whole_held roomy) one ticks x early n ∙ makespans)))) (equal_or_not x (nth whole (lower_at capacity))) in
        let upper = eqb-true y (nth whole (upper_at capacity)) (upper_decides (whole_held roomy) one ticks x early lower y late ∙ makespans) in
        (lower ∙ ap (λ (p : Plan). p.lower) whole_plan, upper ∙ ap (λ (p : Plan). p.upper) whole_plan)

    pub drafted : plan_text lim (job_in (ended x y)) (plan_in capacity (ended x y)) ≡ planned lim (job_in d)
    unfolding planned
    drafted = let (p, q) = ends_found in rw (ended_plan x y, ended_job x y, p, q, job_kept h w.0 (omega arith))

    -- It fits a text.
    pub drafted_most : length (plan_text lim (job_in (ended x y)) (plan_in capacity (ended x y))) ≤ lim.text_length
    drafted_most = rw drafted (own_fits lim (job_in d) h.facts roomy)
