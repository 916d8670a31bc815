-- M* and M of a plan in memory whose ticks are the equations': what planner and checker know of them.
use Rattle.std.specs.Prelude.{if◌then◌else◌}
use Rattle.lists.proofs.Prelude.{◌≡◌, refl, ap, ◌∙◌, sym, List, [], ◌∷◌, reverse, reverse_aux, Bool, true, false, ℕ, ◌+◌, ◌<◌, ◌≤◌, arith, eqb-true, eq-eqb, ne_eqb, eqb, nth, keep, Limits, Job, tick, walk, placements, never, same, largest, Outcome, of_task, times, earlies, lates, exits, makespan, doubled_tasks, ticks_agree, bounds_agree}
use Rattle.definitions.specs.Times.{lower_bound, upper_bound}
use Rattle.definitions.proofs.Lists.{map_same}
use Rattle.heads.specs.Layout.{lower_at, upper_at}
use Rattle.jobs.specs.Held.{job_in}
use Rattle.ticks.specs.Cells.{never_cell, time_in}
use Rattle.plans.specs.Lines.{placed_in}
use Rattle.rounds.specs.Schedule.{choice_of}
use Rattle.plans.specs.Loading.{plan_in, PlanHeld}
use Rattle.definitions.proofs.Later.{later_comm, later_zero}
use Rattle.rounds.proofs.TimeLaws.{largest_reverse}
use Rattle.rounds.proofs.FirstLaws.{least_same}
use Rattle.rounds.proofs.ReplayLaws.{alike_reverse, alike_map}
use Rattle.rounds.proofs.AgreeLaws.{agreed_walk, ticks_all}

-- M* and M ----------------------------------------------------------------------------------------------------------

keep_reverse : {A : Type 0} (f : A → Bool) (xs ys : List A) → keep f (reverse_aux xs ys) ≡ reverse_aux (keep f xs) (keep f ys)
unfolding keep
keep_reverse f [] ys = refl
keep_reverse f (x ∷ xs) ys = keep_reverse f xs (x ∷ ys) ∙ by (f x)
  where
    by : (b : Bool) → reverse_aux (keep f xs) (if b then x ∷ keep f ys else keep f ys) ≡ reverse_aux (if b then x ∷ keep f xs else keep f xs) (keep f ys)
    by true = refl
    by false = refl

-- The choice among times in whatever order.
choice_reverse : (late : Bool) (ds : List Outcome) → choice_of late (times (reverse ds)) ≡ choice_of late (times ds)
unfolding largest
choice_reverse true ds = largest_reverse (λ d. d.time) ds [] ∙ later_comm (largest (times ds)) (tick 0) ∙ later_zero (largest (times ds))
choice_reverse false ds = let b = alike_map (alike_reverse ds) (λ d. d.time) in least_same _ _ b.there b.back

makespan_reverse : (j : Job) (late : Bool) (ds : List Outcome) → makespan j (choice_of late) (reverse ds) ≡ makespan j (choice_of late) ds
unfolding makespan of_task keep
makespan_reverse j late ds =
    ap largest
    (map_same (λ t. choice_of late (times (of_task t (reverse ds)))) (λ t. choice_of late (times (of_task t ds))) (exits j)
    (λ t i. rw (keep_reverse (λ d. eqb d.task t) ds []) (choice_reverse late (of_task t ds))))

-- A time in a cell is a tick exactly if the cell is that number.
same_cell : (x y : ℕ) → y < never_cell → same (time_in x) (tick y) ≡ eqb x y
same_cell x y l = by (eqb x never_cell) refl
  where
    by : (b : Bool) → eqb x never_cell ≡ b → same (if b then never else tick x) (tick y) ≡ eqb x y
    by true p = let q = eqb-true x never_cell p in sym (ne_eqb x y (λ e. omega arith))
    by false p = refl

module _ {lim : Limits} {capacity : ℕ} {mem : List ℕ} (h : PlanHeld lim capacity mem) (one : doubled_tasks (plan_in capacity mem).lines ≡ [])
    (t : ticks_agree (job_in mem) (plan_in capacity mem).lines ≡ true) where
  -- The end of what is placed, early or late, is the one of the equations.
  end_same : (late : Bool) (x y : ℕ) → time_in x ≡ makespan (job_in mem) (choice_of late) (placed_in capacity late (nth mem 3 + 1) (nth mem 0) mem) → y ≤ lim.tick
      → same (makespan (job_in mem) (choice_of late) (walk (job_in mem) (choice_of late) [] [] (placements (job_in mem) (plan_in capacity mem).lines))) (tick y) ≡ eqb x y
  unfolding plan_in
  end_same late x y e l =
      let ds = walk (job_in mem) (choice_of late) [] [] (placements (job_in mem) (plan_in capacity mem).lines) in
      rw (← makespan_reverse (job_in mem) late ds, ← agreed_walk h one (ticks_all h one t) late, ← e) (same_cell x y (omega (arith, l, h.standing.job.suited.tick_fits)))

  module _ (x : ℕ) (e : time_in x ≡ makespan (job_in mem) (choice_of false) (placed_in capacity false (nth mem 3 + 1) (nth mem 0) mem)) where
    lower_same : same (lower_bound (job_in mem) (plan_in capacity mem).lines) (tick (plan_in capacity mem).lower) ≡ eqb x (nth mem (lower_at capacity))
    unfolding lower_bound earlies plan_in
    lower_same = end_same false x (nth mem (lower_at capacity)) e h.facts.lower_most

    pub lower_differs : (x ≡ nth mem (lower_at capacity) → ⊥) → false ≡ bounds_agree (job_in mem) (plan_in capacity mem)
    unfolding bounds_agree
    lower_differs n = rw (lower_same, ne_eqb x (nth mem (lower_at capacity)) n)

    pub upper_decides : x ≡ nth mem (lower_at capacity) → (y : ℕ) → time_in y ≡ makespan (job_in mem) (choice_of true) (placed_in capacity true (nth mem 3 + 1) (nth mem 0) mem)
        → eqb y (nth mem (upper_at capacity)) ≡ bounds_agree (job_in mem) (plan_in capacity mem)
    unfolding bounds_agree upper_bound lates plan_in
    upper_decides q y f = rw (lower_same, eq-eqb x (nth mem (lower_at capacity)) q) (sym (end_same true y (nth mem (upper_at capacity)) f h.facts.upper_most))
