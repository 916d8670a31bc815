-- Ticks that are the equations', line by line; the clocks; and the walk over lines whose ticks are.
use Rattle.std.specs.Prelude.{if◌then◌else◌}
use Rattle.lists.proofs.Prelude.{◌≡◌, refl, ap, ◌∙◌, sym, ⊎_elim, List, [], map, reverse, Bool, true, false, ℕ, zero, suc, ◌+◌, ◌*◌, ◌<◌, ◌≤◌, arith, add-one, replicate, length, nth, below, count_from, In, Limits, Replica, Line, tick, least, largest, times, Outcome, outcome, start, stop_time, finish, walk, placements, earlies, lates, placement_of, tick_of, doubled_tasks, ticks_agree, PlacedWithin, Ordered}
use mathlib.Core.List.{reverse_aux-eq}
use lib.Ieee.{Float}
use Rattle.definitions.specs.Facts.{Apart}
use Rattle.definitions.specs.Refusals.{replicas_of, same_times}
use Rattle.definitions.specs.Obeys.{written_outcome, written}
use Rattle.definitions.proofs.Lists.{both, both_true, refuted, in_append, map_same}
use Rattle.definitions.proofs.Shelf.{ready_finish, settled_row}
use Rattle.definitions.proofs.Bounds.{Bounded, least_within, largest_within, finish_most}
use Rattle.definitions.proofs.Obeying.{Each, placed_by, placed_more, TicksObey, agreed, obeyed, agrees}
use Rattle.heads.specs.Layout.{row_at, processor_at, early_at, late_at, time_at, lanes_most, replica_end}
use Rattle.jobs.specs.Held.{job_in, JobHeld}
use Rattle.jobs.specs.Tables.{line_ticks}
use Rattle.ticks.specs.Cells.{time_in}
use Rattle.plans.specs.Lines.{replica_in, row_outcomes, placed_in, lines_in}
use Rattle.rounds.specs.Schedule.{choice_of, ShortTo}
use Rattle.rounds.specs.Arrivals.{Ended, Supplied, clock_times, BothSupplied, ShortClocks, BothFinish}
use Rattle.rounds.specs.Clocks.{SettledTo, finish_on}
use Rattle.plans.specs.Loading.{line_in, plan_in, PlanHeld}
use Rattle.plans.proofs.Lines.{lines_below, replica_of, in_replicas}
use Rattle.rounds.specs.Checking.{ClocksAfter, finish_in, AgreesTo, LineAgrees}
use Rattle.ticks.specs.declared.clocks.Clocks.{Clocks}
use Rattle.lists.proofs.Counting.{equal_or_not, last_or_before}
use Rattle.lists.proofs.Upward.{map_more}
use Rattle.jobs.proofs.Held.{tasks_in_lem, processors_in, sizes}
use Rattle.rounds.proofs.TimeLaws.{time_tick}
use Rattle.rounds.proofs.Placed.{PredecessorsPlacedBy, in_row}
use Rattle.rounds.proofs.EndLaws.{supplied_clocks}
use Rattle.rounds.proofs.ClockLaws.{outset_clocks}
use Rattle.rounds.proofs.PlanLines.{line_among, line_predecessors}
use Rattle.rounds.proofs.CheckLaws.{none_doubled}
use Rattle.rounds.proofs.Outcomes.{all_come, clocks_short, predecessors_short, finish_at, outcome_of, outcomes_row, row_on}

-- The replicas of a line --------------------------------------------------------------------------------------------

-- The early or late tick of a replica.
abbrev which : Bool → Replica → ℕ
which late r = if late then r.late else r.early

abbrev cell_of : Bool → ℕ → ℕ → List ℕ → ℕ
cell_of late a c mem = nth mem (time_at late a c)

written_at : (late : Bool) (a c : ℕ) (mem : List ℕ) → which late (replica_in a c mem) ≡ cell_of late a c mem
written_at true a c mem = refl
written_at false a c mem = refl

module _ {lim : Limits} {capacity : ℕ} {mem : List ℕ} (h : PlanHeld lim capacity mem) (k : ℕ) (l : k < nth mem 0) where
  pub predecessors_here : PredecessorsPlacedBy capacity k (nth mem (row_at capacity k)) mem
  unfolding plan_in
  predecessors_here = line_predecessors h.standing h.facts.ordered k l

  -- The ticks of a line are in range.
  ticks_most : (late : Bool) (c : ℕ) → c < nth mem 3 + 1 → cell_of late (row_at capacity k) c mem ≤ lim.tick
  unfolding plan_in
  ticks_most late c g =
      by late (h.facts.ticks_most (line_in (row_at capacity k) mem) (line_among capacity k (nth mem 0) mem l) _ (in_replicas (row_at capacity k) (nth mem 3 + 1) c mem g))
    where
      by : (late : Bool) → (nth mem (early_at (row_at capacity k) c) ≤ lim.tick) × (nth mem (late_at (row_at capacity k) c) ≤ lim.tick)
          → cell_of late (row_at capacity k) c mem ≤ lim.tick
      by true t = t.1
      by false t = t.0

  tick_in : (late : Bool) (c : ℕ) → c < nth mem 3 + 1 → time_in (cell_of late (row_at capacity k) c mem) ≡ tick (cell_of late (row_at capacity k) c mem)
  tick_in late c g = let m = ticks_most late c g in time_tick (cell_of late (row_at capacity k) c mem) (λ e. omega (arith, m, h.standing.job.suited.tick_fits))

-- Short ticks -------------------------------------------------------------------------------------------------------

module _ {lim : Limits} {capacity : ℕ} {mem : List ℕ} (h : PlanHeld lim capacity mem) (k : ℕ) (l : k ≤ nth mem 0) (s : ShortTo lim capacity k mem) where
  placed_on : (late : Bool) (i : ℕ) → i ≤ nth mem 0 → (d : Outcome) → In d (placed_in capacity late (nth mem 3 + 1) i mem) → d.processor < nth mem 1
  unfolding placed_in
  placed_on late zero g d m = elim m [ ]
  placed_on late (suc i) g d m =
      ⊎_elim
      (row_on late (row_at capacity i) (nth mem 3 + 1) (nth mem 1) mem (h.standing.row i (omega arith)).processor_of d)
      (placed_on late i (omega arith) d)
      (in_append d (row_outcomes late (row_at capacity i) (nth mem 3 + 1) mem) (placed_in capacity late (nth mem 3 + 1) i mem) m)

  placed_short : (late : Bool) → PlacedWithin (job_in mem) (k * line_ticks lim) (placed_in capacity late (nth mem 3 + 1) k mem)
  placed_short late d i = let (y, e, m) = all_come h.standing l s late d i in (rw (processors_in mem) (placed_on late k l d i), rw e m)

module _ {lim : Limits} {capacity : ℕ} {mem : List ℕ} (h : PlanHeld lim capacity mem) (k : ℕ) (l : k < nth mem 0) (s : ShortTo lim capacity k mem) where
  -- What the code asks for, to compute the finishes of line k.
  pub finishes_asked : {ends : List Float} {clocks : Clocks} → Ended lim capacity k mem ends → ClocksAfter capacity k mem clocks → SettledTo capacity k mem
      → (nth mem (row_at capacity k) < nth mem 0) × BothSupplied capacity (nth mem (row_at capacity k)) mem × ShortClocks clocks mem
      × Supplied lim capacity (nth mem (row_at capacity k)) (clock_times clocks) mem ends
  finishes_asked e c z = (
    h.standing.task_of k l,
    predecessors_short h.standing (omega arith) s (nth mem (row_at capacity k)) (predecessors_here h k l),
    clocks_short h.standing (omega arith) s c,
    supplied_clocks h.standing (omega arith) (nth mem (row_at capacity k)) (predecessors_here h k l) e z c,
  )

  -- If the ticks of line k are the equations', they are short too.
  short_here : (late : Bool) (c : ℕ) → c < nth mem 3 + 1 → LineAgrees capacity k mem → cell_of late (row_at capacity k) c mem ≤ k * line_ticks lim + line_ticks lim
  unfolding finish_on
  short_here late c g a =
      let p = nth mem (processor_at (row_at capacity k) c) in
      rw (a late c g ∙ tick_in h k l late c g) at
      (finish_most lim (job_in mem) h.standing.job.facts (choice_of late) (by late) [] (k * line_ticks lim) (placed_in capacity late (nth mem 3 + 1) k mem) (nth mem (row_at capacity k)) p
      (rw (tasks_in_lem mem) (h.standing.task_of k l)) (rw (processors_in mem) ((h.standing.row k l).processor_of c g)) (placed_short h k (omega arith) s late))
    where
      by : (late : Bool) → Bounded (choice_of late)
      by true = largest_within
      by false = least_within

  pub short_next : LineAgrees capacity k mem → ShortTo lim capacity (k + 1) mem
  short_next a i c g m =
      ⊎_elim
      (λ (e : i ≡ k). rw e (let x = short_here false c m a in let y = short_here true c m a in (omega arith, omega arith)))
      (λ (o : i < k). let (x, y) = s i c o m in (omega arith, omega arith))
      (last_or_before k i (omega arith))

-- The clocks --------------------------------------------------------------------------------------------------------

-- At first all processors are ready at 0.
pub clocks_new : {lim : Limits} {capacity : ℕ} (clocks : Clocks) (mem : List ℕ) → JobHeld lim capacity mem → clocks.early ≡ replicate lanes_most 0 → clocks.late ≡ replicate lanes_most 0
    → ClocksAfter capacity 0 mem clocks
unfolding placed_in
clocks_new clocks mem h e f = outset_clocks (rw (processors_in mem) (sizes h).lanes_fit) e f

-- The ticks of a line -----------------------------------------------------------------------------------------------

-- The first c replicas of line k, which is at a, have the early and late finishes es and ls of their processors.
pub record Compared (lim : Limits) (capacity k a : ℕ) (mem es ls : List ℕ) (c : ℕ) : Type 0 where
  pub plan : PlanHeld lim capacity mem
  pub line : k < nth mem 0
  pub row : a ≡ row_at capacity k
  pub found : (late : Bool) (i : ℕ) → i < nth mem 3 + 1 → tick (nth (if late then ls else es) (nth mem (processor_at (row_at capacity k) i))) ≡ finish_in capacity late k i mem
  pub agree : AgreesTo capacity k c mem

pub compared_none : {lim : Limits} {capacity k a : ℕ} {mem es ls : List ℕ} {clocks : Clocks} → PlanHeld lim capacity mem → k < nth mem 0 → ClocksAfter capacity k mem clocks
    → a ≡ row_at capacity k
    → BothFinish capacity (nth mem a) clocks.early clocks.late mem es ls → Compared lim capacity k a mem es ls 0
compared_none {capacity} {k} {a} {mem} {es} {ls} {clocks} h l s e b₀ =
    record { plan = h; line = l; row = e; found = found; agree = λ late i g. absurd (omega arith) }
  where
    b : BothFinish capacity (nth mem (row_at capacity k)) clocks.early clocks.late mem es ls
    b = rw e at b₀

    found : (late : Bool) (i : ℕ) → i < nth mem 3 + 1 → tick (nth (if late then ls else es) (nth mem (processor_at (row_at capacity k) i))) ≡ finish_in capacity late k i mem
    found true i g =
        let m = (h.standing.row k l).processor_of i g in
        b.late_finish _ m ∙ finish_at h.standing (omega arith) true (nth mem (row_at capacity k)) _ _ (predecessors_here h k l) (s.late_ready _ (rw (processors_in mem) m))
    found false i g =
        let m = (h.standing.row k l).processor_of i g in
        b.early_finish _ m ∙ finish_at h.standing (omega arith) false (nth mem (row_at capacity k)) _ _ (predecessors_here h k l) (s.early_ready _ (rw (processors_in mem) m))

module _ {lim : Limits} {capacity k a c : ℕ} {mem es ls : List ℕ} (x : Compared lim capacity k a mem es ls c) where
  pub compared_all : nth mem 3 + 1 ≤ c → LineAgrees capacity k mem
  compared_all l late i g = x.agree late i (omega arith)

  module _ (g : c < nth mem 3 + 1) where
    pub cells_within : replica_end a c ≤ length mem
    cells_within = omega (arith, sizes x.plan.standing.job, x.line, x.row, g)

    -- The next replica is on p, and y is one of its ticks.
    module _ {p : ℕ} (e : p ≡ nth mem (processor_at a c)) where
      on_here : p ≡ nth mem (processor_at (row_at capacity k) c)
      on_here = rw x.row at e

      pub processor_most : p < lanes_most
      processor_most = omega (arith, on_here, (x.plan.standing.row k x.line).processor_of c g, (sizes x.plan.standing.job).lanes_fit)

      tick_same : (late : Bool) (y : ℕ) → y ≡ nth mem (time_at late a c) → nth (if late then ls else es) p ≡ y → finish_in capacity late k c mem ≡ time_in (cell_of late (row_at capacity k) c mem)
      tick_same late y f q =
          let z : nth (if late then ls else es) p ≡ cell_of late (row_at capacity k) c mem = q ∙ rw x.row at f in
          sym (x.found late c g) ∙ ap tick (rw on_here at z) ∙ sym (tick_in x.plan k x.line late c g)

      pub compared_not : (late : Bool) (y : ℕ) → y ≡ nth mem (time_at late a c) → (nth (if late then ls else es) p ≡ y → ⊥) → LineAgrees capacity k mem → ⊥
      compared_not late y f n q =
          let z : nth (if late then ls else es) p ≡ cell_of late (row_at capacity k) c mem = rw on_here (ap tick_of (x.found late c g ∙ q late c g ∙ tick_in x.plan k x.line late c g)) in
          n (z ∙ sym (rw x.row at f))

      pub compared_next : (y z : ℕ) → y ≡ nth mem (early_at a c) → z ≡ nth mem (late_at a c) → nth es p ≡ y → nth ls p ≡ z → Compared lim capacity k a mem es ls (c + 1)
      compared_next y z f o q r =
          record {
            plan = x.plan;
            line = x.line;
            row = x.row;
            found = x.found;
            agree = λ late i m. ⊎_elim (λ (u : i ≡ c). rw u (by late)) (λ (u : i < c). x.agree late i u) (last_or_before c i (omega arith));
          }
        where
          by : (late : Bool) → finish_in capacity late k c mem ≡ time_in (cell_of late (row_at capacity k) c mem)
          by true = tick_same true z o r
          by false = tick_same false y f q

-- Lines whose ticks are the equations' leave no processor ready before its replicas have finished.
pub settled_agreed : (capacity : ℕ) (mem : List ℕ) (k : ℕ) → ((i : ℕ) → i < k → LineAgrees capacity i mem) → SettledTo capacity k mem
unfolding placed_in finish_on
settled_agreed capacity mem zero a = λ late d i. absurd i
settled_agreed capacity mem (suc k) a = λ late.
    let t = nth mem (row_at capacity k) in
    let placed = placed_in capacity late (nth mem 3 + 1) k mem in
    settled_row (job_in mem) (finish_on capacity late k mem t) placed (row_outcomes late (row_at capacity k) (nth mem 3 + 1) mem)
    (λ d i.
    let (c, g, e) = in_row late mem (row_at capacity k) (nth mem 3 + 1) d i in
    rw e (sym (a k (omega arith) late c g), ready_finish (job_in mem) (choice_of late) [] placed (placement_of (job_in mem) t (nth mem (processor_at (row_at capacity k) c)))))
    (settled_agreed capacity mem k (λ i l. a i (omega arith)) late)

-- One line more.
pub agreed_next : (capacity : ℕ) (mem : List ℕ) (k : ℕ) → LineAgrees capacity k mem → ((i : ℕ) → i < k → LineAgrees capacity i mem) → (i : ℕ) → i < k + 1 → LineAgrees capacity i mem
agreed_next capacity mem k a b i g = ⊎_elim (λ (e : i ≡ k). rw e a) (λ (l : i < k). b i l) (last_or_before k i (omega arith))

-- The walk over the lines in memory ---------------------------------------------------------------------------------

-- What is true of each line after those before it, line by line.
module _ (P : List Line → Line → Type 0) (f : ℕ → Line) where
  each_count : (a n : ℕ) → ((k : ℕ) → a ≤ k → k < a + n → P (map f (below k)) (f k)) → Each P (map f (below a)) (map f (count_from a n))
  unfolding count_from
  each_count a zero h = tt
  each_count a (suc n) h = (h a (omega arith) (omega arith), rw (← map_more f a, add-one a) (each_count (suc a) n (λ k p q. h k (omega arith) (omega arith))))

  count_each : (a n : ℕ) → Each P (map f (below a)) (map f (count_from a n)) → (k : ℕ) → a ≤ k → k < a + n → P (map f (below k)) (f k)
  unfolding count_from
  count_each a zero h k p q = absurd (omega arith)
  count_each a (suc n) (h, hs) k p q =
      ⊎_elim (λ (e : k ≡ a). rw e h) (λ (e : k ≡ a → ⊥). count_each (suc a) n (rw (← map_more f a, add-one a) at hs) k (omega arith) (omega arith)) (equal_or_not k a)

module _ {lim : Limits} {capacity : ℕ} {mem : List ℕ} (h : PlanHeld lim capacity mem) (one : doubled_tasks (plan_in capacity mem).lines ≡ []) where
  abbrev wide : ℕ
  wide = nth mem 3 + 1

  abbrev line : ℕ → Line
  line k = line_in (row_at capacity k) mem

  abbrev ns : ℕ → List Line
  ns k = lines_in capacity wide k mem

  -- What is written in the first k lines is what is placed by them.
  written_placed : (late : Bool) (k : ℕ) → k ≤ nth mem 0 → placed_by (job_in mem) (choice_of late) (which late) (ns k) ≡ placed_in capacity late wide k mem
  unfolding placed_in lines_in written
  written_placed late zero l = refl
  written_placed late (suc k) l =
      sym (placed_more (job_in mem) (choice_of late) (which late) (ns k) (line k))
      ∙ rw (
        written_placed late k (omega arith),
        map_same (written_outcome (which late) (line k).task) (outcome_of late (line k).task) (line k).replicas same,
        outcomes_row late (row_at capacity k) wide mem,
      ) (reverse_aux-eq (map (outcome_of late (line k).task) (line k).replicas) (placed_in capacity late wide k mem))
    where
      same : (r : Replica) → In r (line k).replicas → written_outcome (which late) (line k).task r ≡ outcome_of late (line k).task r
      same r i =
          let (c, g, e) = replica_of mem (row_at capacity k) wide r i in
          rw (← e, written_at late (row_at capacity k) c mem) (ap (outcome (placement_of (job_in mem) (line k).task (replica_in (row_at capacity k) c mem).processor)) (sym (tick_in h k l late c g)))

  -- The ticks of line k are the equations' over what is written before.
  abbrev Obeys : Bool → List Line → Line → Type 0
  Obeys late = TicksObey (job_in mem) (choice_of late) (which late)

  agrees_obeys : (late : Bool) (k : ℕ) → k < nth mem 0 → LineAgrees capacity k mem → Obeys late (ns k) (line k)
  unfolding finish_on finish start stop_time
  agrees_obeys late k l a r i =
      let (c, g, e) = replica_of mem (row_at capacity k) wide r i in
      rw (← e, written_placed late k (omega arith), written_at late (row_at capacity k) c mem) (sym (a late c g ∙ tick_in h k l late c g))

  obeys_agrees : (k : ℕ) → k < nth mem 0 → ((late : Bool) → Obeys late (ns k) (line k)) → LineAgrees capacity k mem
  unfolding finish_on finish start stop_time
  obeys_agrees k l o late c g =
      let e = o late (replica_in (row_at capacity k) c mem) (in_replicas (row_at capacity k) wide c mem g) in
      rw (tick_in h k l late c g) (sym (rw (written_placed late k (omega arith), written_at late (row_at capacity k) c mem) at e))

  ordered : Ordered (job_in mem) [] (ns (nth mem 0))
  unfolding plan_in
  ordered = h.facts.ordered

  apart : Apart (ns (nth mem 0))
  unfolding plan_in
  apart = none_doubled (ns (nth mem 0)) one

  -- If the ticks of all lines are the equations', the walk gives what is written.
  all_obey : ((i : ℕ) → i < nth mem 0 → LineAgrees capacity i mem) → (late : Bool)
      → walk (job_in mem) (choice_of late) [] [] (placements (job_in mem) (ns (nth mem 0))) ≡ written (which late) (ns (nth mem 0))
  unfolding count_from
  all_obey a late =
      obeyed (job_in mem) (choice_of late) (which late) (ns (nth mem 0)) ordered apart
      (rw (lines_below mem capacity wide (nth mem 0))
      (each_count (Obeys late) line 0 (nth mem 0) (λ k p q. rw (← lines_below mem capacity wide k) (agrees_obeys late k (omega arith) (a k (omega arith))))))

  pub agreed_walk : ((i : ℕ) → i < nth mem 0 → LineAgrees capacity i mem) → (late : Bool)
      → placed_in capacity late wide (nth mem 0) mem ≡ reverse (walk (job_in mem) (choice_of late) [] [] (placements (job_in mem) (ns (nth mem 0))))
  agreed_walk a late = rw (all_obey a late) (sym (written_placed late (nth mem 0) (omega arith)))

  -- All ticks are the equations', or those of some line are not.
  pub ticks_yes : (k : ℕ) → k ≡ nth mem 0 → ((i : ℕ) → i < k → LineAgrees capacity i mem) → true ≡ ticks_agree (job_in mem) (plan_in capacity mem).lines
  unfolding ticks_agree earlies lates plan_in
  ticks_yes k e a =
      let f = all_obey (λ i l. a i (omega arith)) in
      sym (both_true (agrees (job_in mem) (choice_of false) (which false) (ns (nth mem 0)) (f false)) (agrees (job_in mem) (choice_of true) (which true) (ns (nth mem 0)) (f true)))

  abbrev Same : Bool → Type 0
  Same late = same_times (times (walk (job_in mem) (choice_of late) [] [] (placements (job_in mem) (ns (nth mem 0))))) (map (λ r. tick (which late r)) (replicas_of (ns (nth mem 0)))) ≡ true

  pub ticks_all : ticks_agree (job_in mem) (plan_in capacity mem).lines ≡ true → (i : ℕ) → i < nth mem 0 → LineAgrees capacity i mem
  unfolding ticks_agree earlies lates plan_in count_from
  ticks_all t i l =
      let (e, f) = both _ _ t in
      obeys_agrees i l (λ late.
      let each = rw (lines_below mem capacity wide (nth mem 0)) at (by e f late) in
      rw (← lines_below mem capacity wide i) at (count_each (Obeys late) line 0 (nth mem 0) each i (omega arith) (omega arith)))
    where
      by : Same false → Same true → (late : Bool) → Each (Obeys late) [] (ns (nth mem 0))
      by e f true = agreed (job_in mem) largest (which true) (ns (nth mem 0)) ordered apart f
      by e f false = agreed (job_in mem) least (which false) (ns (nth mem 0)) ordered apart e

  pub ticks_no : (k : ℕ) → k < nth mem 0 → (LineAgrees capacity k mem → ⊥) → false ≡ ticks_agree (job_in mem) (plan_in capacity mem).lines
  ticks_no k l n = sym (refuted (ticks_agree (job_in mem) (plan_in capacity mem).lines) (λ t. n (ticks_all t k l)))
