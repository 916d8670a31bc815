-- The end of a plan, from the lines in memory.
use Rattle.std.specs.Prelude.{if◌then◌else◌}
use Rattle.std.specs.Ordering.{nat_cmp, ord_max}
use Rattle.std.proofs.lemmas.Grind.{common_steps}
use Rattle.lists.proofs.Prelude.{◌≡◌, refl, ap, ◌∙◌, sym, List, [], ◌∷◌, map, Bool, true, false, ℕ, suc, ◌+◌, ◌-◌, ◌<◌, ◌≤◌, max, arith, sub-zero, add-one, length, length-map, nth, count_from, below, keep, empty, In, Edge, outgoing, Limits, Time, tick, later, sooner, least, largest, of_task, times, exits, makespan}
use Rattle.orders.specs.Links.{Run}
use Rattle.orders.proofs.Walk.{pass_length}
use Rattle.definitions.proofs.Lists.{distinct_map, full, in_map, in_below, distinct_count, length_count}
use Rattle.jobs.proofs.Held.{sizes}
use Rattle.heads.specs.Layout.{line_at, row_at, time_at}
use Rattle.jobs.specs.Held.{job_in}
use Rattle.ticks.specs.Cells.{never_cell, time_in}
use Rattle.plans.specs.Lines.{row_end, row_outcomes, placed_in, row_of, RowHeld, LinesHeld}
use Rattle.rounds.specs.Schedule.{choice_of}
use Rattle.rounds.proofs.Placed.{placed_row_of, line_in_lem}
use Rattle.rounds.proofs.TimeLaws.{later_cells}
use Rattle.definitions.proofs.Later.{later_comm, later_assoc, later_zero}

-- The greater of two cells holds the later of their times.
later_max : (x y r : ℕ) → r ≤ never_cell → r ≡ ord_max nat_cmp y x → time_in r ≡ later (time_in x) (time_in y)
later_max x y r b m =
    let e : r ≡ max x y = grind (arith, common_steps, m) in
    later_cells never_cell x y r (omega arith) (omega arith) e

-- Exit tasks --------------------------------------------------------------------------------------------------------

-- The run of the edges that leave an exit task is empty.
module _ {a b : ℕ} {cells : List ℕ} where
  exit_yes : (es : List Edge) → Run a b cells es → b ≤ a → empty es ≡ true
  exit_yes [] r h = refl
  exit_yes (x ∷ es) r h = absurd (let n = pass_length r in omega arith)

  exit_no : (es : List Edge) → Run a b cells es → a < b → empty es ≡ false
  exit_no [] r h = absurd (let n = pass_length r in omega arith)
  exit_no (x ∷ es) r h = refl

-- The choice in a line ----------------------------------------------------------------------------------------------

-- The choice among the first c replicas of the line at a.
abbrev pub chosen_in : Bool → ℕ → ℕ → List ℕ → Time
chosen_in late a c mem = choice_of late (times (row_outcomes late a c mem))

pub chosen_first : (late : Bool) (a : ℕ) (mem : List ℕ) (x : ℕ) → time_in x ≡ choice_of late [] → time_in x ≡ chosen_in late a 0 mem
unfolding row_outcomes
chosen_first late a mem x h = h

-- One replica more.
pub chosen_next : (late : Bool) (a : ℕ) (mem : List ℕ) (c x acc r : ℕ) → x ≡ nth mem (time_at late a c) → time_in acc ≡ chosen_in late a c mem
    → time_in r ≡ (if late then later (time_in x) (time_in acc) else sooner (time_in x) (time_in acc))
    → time_in r ≡ chosen_in late a (c + 1) mem
unfolding row_outcomes least largest
chosen_next true a mem c x acc r e f g = g ∙ rw (f, e, add-one c)
chosen_next false a mem c x acc r e f g = g ∙ rw (f, e, add-one c)

-- Where all tasks are placed ----------------------------------------------------------------------------------------

module _ {lim : Limits} {capacity : ℕ} {mem : List ℕ} (s : LinesHeld lim capacity (nth mem 0) mem) where
  -- As many lines as tasks: every task has its line.
  pub all_placed : (t : ℕ) → t < nth mem 0 → 0 < nth mem (line_at capacity + t)
  all_placed t h =
      let v = nth mem 0 in
      let task : ℕ → ℕ = λ i. nth mem (row_at capacity i) in
      let one : (i k : ℕ) → In i (below v) → In k (below v) → task i ≡ task k → i ≡ k =
      λ i k m n e.
      let a = s.line_of i (in_below v i m) in
      let b = s.line_of k (in_below v k n) in
      let f : nth mem (line_at capacity + task k) ≡ suc i = rw e at a in
      omega arith in
      let m = full v (map task (below v)) (distinct_map task (below v) one (distinct_count 0 v)) (λ x i. let r = in_map task x (below v) i in
      let b = s.task_of r.0 (in_below v r.0 r.1) in rw r.2 at b) (length-map (below v) task ∙ length_count 0 v) t h in
      let r = in_map task t (below v) m in
      let l = s.line_of r.0 (in_below v r.0 r.1) in
      let f : nth mem (line_at capacity + t) ≡ suc r.0 = rw r.2 at l in
      omega arith

  pub row_of_task : (t : ℕ) → t < nth mem 0 → RowHeld lim (row_of capacity t mem) mem × (nth mem (line_at capacity + t) ≤ nth mem 0)
  row_of_task t h =
      let l = all_placed t h in
      let (b, _) = line_in_lem s t (nth mem (line_at capacity + t) - 1) h (omega arith) in
      (s.row (nth mem (line_at capacity + t) - 1) b, omega arith)

  -- Where the cells of its line are.
  pub cells_of_task : (t : ℕ) → t < nth mem 0 → (0 < nth mem (line_at capacity + t)) × (row_end (row_of capacity t mem) ≤ length mem) × (nth mem 3 ≤ lim.losses)
  cells_of_task t h =
      let l = all_placed t h in
      let m = (row_of_task t h).1 in
      let z = sizes s.job in
      (l, omega (arith, z.size, z.tasks_most.1), z.losses_most)

-- The end of t, if no edge leaves it, else 0.
abbrev pub exit_time : ℕ → Bool → List ℕ → ℕ → Time
exit_time capacity late mem t = if empty (outgoing (job_in mem) t) then choice_of late (times (of_task t (placed_in capacity late (nth mem 3 + 1) (nth mem 0) mem))) else tick 0

module _ {lim : Limits} {capacity : ℕ} (late : Bool) {mem : List ℕ} (s : LinesHeld lim capacity (nth mem 0) mem) (t : ℕ) (h : t < nth mem 0) {a b : ℕ} (r : Run a b mem (outgoing (job_in mem) t)) where
  pub exit_makespan : (x : ℕ) → b ≤ a → time_in x ≡ chosen_in late (row_of capacity t mem) (nth mem 3 + 1) mem → time_in x ≡ exit_time capacity late mem t
  exit_makespan x e f = rw (exit_yes (outgoing (job_in mem) t) r e, placed_row_of s late (nth mem 3 + 1) (nth mem 0) (omega arith) t h (all_placed s t h) (row_of_task s t h).1) f

  pub exit_other : a < b → time_in 0 ≡ exit_time capacity late mem t
  exit_other l = rw (exit_no (outgoing (job_in mem) t) r l)

-- The largest end ---------------------------------------------------------------------------------------------------

largest_keep : {A : Type 0} (f : A → Time) (test : A → Bool) (xs : List A) → largest (map (λ x. if test x then f x else tick 0) xs) ≡ largest (map f (keep test xs))
unfolding largest keep
largest_keep f test [] = refl
largest_keep f test (x ∷ xs) = by (test x) (largest_keep f test xs)
  where
    by : (b : Bool) → largest (map (λ x. if test x then f x else tick 0) xs) ≡ largest (map f (keep test xs))
        → later (if b then f x else tick 0) (largest (map (λ x. if test x then f x else tick 0) xs)) ≡ largest (map f (if b then x ∷ keep test xs else keep test xs))
    by true e = ap (later (f x)) e
    by false e = later_zero (largest (map (λ x. if test x then f x else tick 0) xs)) ∙ e

-- The tasks from t on are still to be seen; acc is the largest end of the others.
abbrev pub Ending : ℕ → Bool → List ℕ → ℕ → ℕ → Type 0
Ending capacity late mem acc t =
    later (largest (map (exit_time capacity late mem) (count_from t (nth mem 0 - t)))) (time_in acc)
    ≡ makespan (job_in mem) (choice_of late) (placed_in capacity late (nth mem 3 + 1) (nth mem 0) mem)

module _ (capacity : ℕ) (late : Bool) (mem : List ℕ) where
  pub ending_first : Ending capacity late mem 0 0
  unfolding makespan exits job_in
  ending_first =
      later_comm (largest (map (exit_time capacity late mem) (count_from 0 (nth mem 0 - 0)))) (tick 0)
      ∙ later_zero (largest (map (exit_time capacity late mem) (count_from 0 (nth mem 0 - 0))))
      ∙ rw (sub-zero (nth mem 0))
      (largest_keep (λ t. choice_of late (times (of_task t (placed_in capacity late (nth mem 3 + 1) (nth mem 0) mem)))) (λ t. empty (outgoing (job_in mem) t)) (below (nth mem 0)))

  pub ending_next : (acc t x r : ℕ) → t < nth mem 0 → time_in x ≡ exit_time capacity late mem t → r ≤ never_cell → r ≡ ord_max nat_cmp acc x → Ending capacity late mem acc t
      → Ending capacity late mem r (t + 1)
  unfolding count_from largest
  ending_next acc t x r h e b m g =
      let f = later_max x acc r b m in
      let rest : Time = largest (map (exit_time capacity late mem) (count_from (t + 1) (nth mem 0 - (t + 1)))) in
      let n : nth mem 0 - t ≡ suc (nth mem 0 - suc t) = omega arith in
      let old : later (later (exit_time capacity late mem t) rest) (time_in acc) ≡ makespan (job_in mem) (choice_of late)
      (placed_in capacity late (nth mem 3 + 1) (nth mem 0) mem) = rw (add-one t) (rw n at g) in
      rw (f, e) (sym (later_assoc rest (exit_time capacity late mem t) (time_in acc)) ∙ ap (λ (y : Time). later y (time_in acc)) (later_comm rest (exit_time capacity late mem t)) ∙ old)

  pub ending_done : (acc t : ℕ) → nth mem 0 ≤ t → Ending capacity late mem acc t → time_in acc ≡ makespan (job_in mem) (choice_of late) (placed_in capacity late (nth mem 3 + 1) (nth mem 0) mem)
  unfolding count_from largest
  ending_done acc t h g =
      let n : nth mem 0 - t ≡ 0 = omega arith in
      sym (later_zero (time_in acc)) ∙ (rw n at g)
