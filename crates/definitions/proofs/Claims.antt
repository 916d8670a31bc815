-- The claims of specs/Claims.antt are true.
use Rattle.std.specs.Prelude.{if◌then◌else◌}
use mathlib.Core.Path.{◌≡◌, refl, ap, ◌∙◌, sym}
use mathlib.Core.Logic.{⊎_elim}
use mathlib.Core.List.{List, [], ◌∷◌}
use mathlib.Core.Bool.{Bool, true, false}
use Prim.Native.Nat.{ℕ, zero, suc, ◌+◌, ◌*◌, ◌^◌, ◌<◌, ◌≤◌}
use native.Mathlib.Omega.{arith}
use native.Mathlib.Nat.{suc-mul}
use lib.Dec.{eqb}
use lib.ListN.{length, take, length-take}
use borrow.Author.Tests.{eqb-true}
use Rattle.definitions.specs.Lists.{In}
use Rattle.definitions.specs.Limits.{Limits, document01}
use Rattle.definitions.specs.Text.{width_from, width, Result, good, bad}
use Rattle.definitions.specs.Job.{Job, read_job}
use Rattle.definitions.specs.Plan.{Line, Plan, read_plan, plan_text}
use Rattle.definitions.specs.Stops.{stops_text}
use Rattle.definitions.specs.Times.{least, earlies}
use Rattle.definitions.specs.Obeys.{Obeys}
use Rattle.definitions.specs.Refusals.{doubled_tasks, plan_refusal}
use Rattle.definitions.specs.Planner.{Waiting, waiting_from, bottom_levels, ranked, trial, plan_for}
use Rattle.definitions.specs.Replay.{replay, replay_makespan}
use Rattle.definitions.specs.Answers.{accepted, doubled, rejected, verdict_of, verdict_for, verdict, planned}
use Rattle.definitions.specs.Claims.{halting_of, halted_replay, placed_after, PlanWithin, plan_ticks, replay_ticks, line_length, plan_length, Roomy, EdgesAscend, OneOrder, Kept, Quiet, LateStops, Doubled, KeptBytes, DoubledBytes, AcceptedObeys, PrintedObeys, OwnAccepted, TicksFit, LevelsFit, Bears, Breaks, Claim, PlacedWithin}
use Rattle.definitions.proofs.Lists.{in_reverse, in_take}
use Rattle.definitions.specs.Facts.{JobFacts, Ordered, PlanFacts}
use Rattle.definitions.proofs.Tasks.{line_facts}
use Rattle.definitions.specs.Shelf.{ShelfTicks, ShelfPlans}
use Rattle.definitions.proofs.EdgeOrder.{same_order}
use Rattle.definitions.proofs.Shelf.{earlies_all, lower_all, replays_all, lates_sooner, upper_sooner, plan_redrawn}
use Rattle.definitions.proofs.Reading.{job_facts, plan_facts}
use Rattle.definitions.proofs.Guarantee.{accepted_facts, kept, quiet}
use Rattle.definitions.proofs.Stopping.{late_replay}
use Rattle.definitions.proofs.Doubled.{doubled_line, doubled_undone}
use Rattle.definitions.proofs.Bytes.{same_tick, replayed_read, answer_done, answer_undone}
use Rattle.definitions.proofs.Obeying.{accepted_obeys, obeys_accepted}
use Rattle.definitions.proofs.Placing.{placed_count, placed_ordered, placed_accepted}
use Rattle.definitions.proofs.Bounds.{least_within, apart_within, plan_bound, plan_within, replay_within, trial_most, ranked_most}
use Rattle.definitions.proofs.RoundTrip.{plan_back, plan_only, plan_length_lem, stops_back, stops_fit}

-- The checker's answer ----------------------------------------------------------------------------------------

module _ (l : Limits) (ns : List Line) (n : ℕ) where
  -- It accepts only where no number is due, and names tasks only that are doubled.
  accepted_due : verdict_of l ns n ≡ accepted → n ≡ 0
  accepted_due h = by (eqb n 0) (eqb n 12) refl h
    where
      by : (a b : Bool) → eqb n 0 ≡ a → (if a then accepted else (if b then doubled (doubled_tasks ns) else rejected n)) ≡ accepted → n ≡ 0
      by true b e h = eqb-true n 0 e
      by false true e h = let z : ◌≡◌ {A = ℕ} 0 1 = cc in absurd (omega arith)
      by false false e h = let z : ◌≡◌ {A = ℕ} 0 1 = cc in absurd (omega arith)

  doubled_due : (ts : List ℕ) → verdict_of l ns n ≡ doubled ts → doubled_tasks ns ≡ ts
  doubled_due ts h = by (eqb n 0) (eqb n 12) h
    where
      by : (a b : Bool) → (if a then accepted else (if b then doubled (doubled_tasks ns) else rejected n)) ≡ doubled ts → doubled_tasks ns ≡ ts
      by true b h = let z : ◌≡◌ {A = ℕ} 0 1 = cc in absurd (omega arith)
      by false true h = cc
      by false false h = let z : ◌≡◌ {A = ℕ} 0 1 = cc in absurd (omega arith)

module _ (l : Limits) (job plan : List ℕ) (j : Job) (p : Plan) (job_read : read_job l job ≡ good j) (plan_read : read_plan l j plan ≡ good p) where
  -- Of texts that were read it is the answer to what they say.
  verdict_read : verdict l job plan ≡ verdict_of l p.lines (plan_refusal j p)
  unfolding verdict
  verdict_read = rw (job_read, plan_read)

  none_due : verdict l job plan ≡ accepted → plan_refusal j p ≡ 0
  none_due h = accepted_due l p.lines (plan_refusal j p) (rw verdict_read at h)

  in_doubled : (ts : List ℕ) → verdict l job plan ≡ doubled ts → (t : ℕ) → In t ts → In t (doubled_tasks p.lines)
  in_doubled ts h t i = rw (doubled_due l p.lines (plan_refusal j p) ts (rw verdict_read at h)) i

-- Demand 3 ----------------------------------------------------------------------------------------------------

pub kept_promise : (l : Limits) → Kept l
kept_promise l job plan stops j p ss r h =
    kept l j p ss (plan_facts l j plan p r.plan_read) (none_due l job plan j p r.job_read r.plan_read h)

pub quiet_promise : (l : Limits) → Quiet l
quiet_promise l job plan stops j p r h = quiet j p (none_due l job plan j p r.job_read r.plan_read h)

pub late_stops : (l : Limits) → LateStops l
late_stops l job plan stops j p ss r h = late_replay j ss p.lines h

pub doubled_promise : (l : Limits) → Roomy l → Doubled l
doubled_promise l roomy job plan j p ts job_read plan_read h t i =
    let facts = job_facts l job j job_read in
    let (a, b, c, d) = doubled_undone l j p t facts (plan_facts l j plan p plan_read) (in_doubled l job plan j p job_read plan_read ts h t i) in
    (stops_back l roomy j (halting_of t p.lines) facts a (stops_fit l roomy j (halting_of t p.lines) facts a), b, c, d)

-- Demand 3, in the bytes that are answered --------------------------------------------------------------------

pub kept_bytes : (l : Limits) → KeptBytes l
kept_bytes l job plan stops j p ss r h few =
    let (f, (x, e, low, high)) = kept_promise l job plan stops j p ss r h few in
    let (ds, a, b) = answer_done l j (replay j ss p.lines) x f e in (
      ds,
      x,
      a,
      replayed_read l job plan stops j p ss r ∙ ap good b,
      low,
      high,
      λ q. same_tick x p.lower (sym e ∙ ap (λ ss. replay_makespan j (replay j ss p.lines)) q ∙ quiet j p (none_due l job plan j p r.job_read r.plan_read h)),
    )

pub doubled_bytes : (l : Limits) → Roomy l → DoubledBytes l
doubled_bytes l roomy job plan j p ts job_read plan_read h t i =
    let (stops_read, few, undone, round) = doubled_promise l roomy job plan j p ts job_read plan_read h t i in
    let g = plan_facts l j plan p plan_read in
    let (n, k, d, e) = doubled_line t p.lines (in_doubled l job plan j p job_read plan_read ts h t i) in
    let (before, m, q) = line_facts j [] p.lines g.ordered n k in
    let (after, a, b) = answer_undone l j (halted_replay j t p.lines) t (rw (← e) m.task_below) undone in (
      few,
      after,
      replayed_read l job plan (stops_text l (halting_of t p.lines)) j p (halting_of t p.lines)
          (record { job_read = job_read; plan_read = plan_read; stops_read = stops_read })
          ∙ ap good a,
      λ x. b (round x),
    )

-- Demand 2 ----------------------------------------------------------------------------------------------------

pub accepted_obey : (l : Limits) → AcceptedObeys l
accepted_obey l job plan j p job_read plan_read =
    let g = plan_facts l j plan p plan_read in (
      λ h. accepted_obeys j p g.ordered g.count (none_due l job plan j p job_read plan_read h),
      λ h. verdict_read l job plan j p job_read plan_read ∙ rw (obeys_accepted j p h).2,
    )

-- Ticks -------------------------------------------------------------------------------------------------------

pub ticks_fit : (l : Limits) → TicksFit l
ticks_fit l job plan j p job_read plan_read =
    let facts = job_facts l job j job_read in
    let g = plan_facts l j plan p plan_read in
    let due = none_due l job plan j p job_read plan_read in (
      λ h. plan_within l j facts p g.ordered g.count (due h),
      λ ss. replay_within l j facts ss p.lines g.ordered g.count,
    )

-- Plans that obey, printed ------------------------------------------------------------------------------------

module _ (l : Limits) (roomy : Roomy l) (j : Job) (facts : JobFacts l j) (p : Plan) (h : Obeys j p) where
  obeys_within : PlanWithin l j p
  obeys_within = let (o, c, due) = obeys_accepted j p h in plan_within l j facts p o c due

  -- They are in range, their text is not too long, and it is read back.
  obeys_facts : PlanFacts l j p
  obeys_facts =
      let (o, c, due) = obeys_accepted j p h in
      record {
        lower_most = omega (arith, obeys_within.lower_most);
        upper_most = omega (arith, obeys_within.upper_most);
        count = c;
        ordered = o;
        ticks_most = λ n i r k. omega (arith, obeys_within.written_most n i r k);
      }

  obeys_fits : length (plan_text l j p) ≤ l.text_length
  obeys_fits = omega (arith, plan_length_lem l j facts p obeys_facts obeys_within.lower_most obeys_within.upper_most obeys_within.written_most)

  obeys_read : read_plan l j (plan_text l j p) ≡ good p
  obeys_read = plan_back l roomy j p facts obeys_facts obeys_fits

-- What is accepted was read.
accepted_read : (l : Limits) (job plan : List ℕ) (j : Job) → read_job l job ≡ good j → verdict l job plan ≡ accepted → (p : Plan) × (read_plan l j plan ≡ good p)
unfolding verdict
accepted_read l job plan j h g = by (read_plan l j plan) (rw h at g)
  where
    by : (r : Result Plan) → verdict_for l j r ≡ accepted → (p : Plan) × (r ≡ good p)
    by (good p) g = (p, refl)
    by (bad n) g = let z : ◌≡◌ {A = ℕ} 0 1 = cc in absurd (omega arith)

pub printed_obey : (l : Limits) → Roomy l → PrintedObeys l
printed_obey l roomy job j p h =
    let facts = job_facts l job j h in (
      λ all a.
          let (q, r) = accepted_read l job (plan_text l j p) j h a in
          rw (plan_only l roomy j facts p q all r) at ((accepted_obey l job (plan_text l j p) j q h r).0 a),
      λ o. (accepted_obey l job (plan_text l j p) j p h (obeys_read l roomy j facts p o)).1 o,
    )

-- The planner's own plans -------------------------------------------------------------------------------------

module _ (l : Limits) (j : Job) (facts : JobFacts l j) where
  abbrev own : Plan
  own = plan_for j j.losses

  own_obeys : Obeys j own
  own_obeys = accepted_obeys j own (placed_ordered l j facts) (placed_count l j facts) (placed_accepted l j facts)

  module _ (roomy : Roomy l) where
    pub own_facts : PlanFacts l j (plan_for j j.losses)
    own_facts = obeys_facts l roomy j facts own own_obeys

    pub own_fits : length (planned l j) ≤ l.text_length
    unfolding planned
    own_fits = obeys_fits l roomy j facts own own_obeys

pub own_accepted : (l : Limits) → Roomy l → OwnAccepted l
unfolding planned
own_accepted l roomy job j h =
    (printed_obey l roomy job j (plan_for j j.losses) h).1 (own_obeys l j (job_facts l job j h))

-- The planner's numbers ---------------------------------------------------------------------------------------

ordered_take : (j : Job) (k : ℕ) (seen : List ℕ) (ns : List Line) → Ordered j seen ns → Ordered j seen (take k ns)
ordered_take j zero seen ns o = tt
ordered_take j (suc k) seen [] o = tt
ordered_take j (suc k) seen (n ∷ ns) (o, os) = (o, ordered_take j k (n.task ∷ seen) ns os)

module _ (l : Limits) (j : Job) (facts : JobFacts l j) (k : ℕ) where
  -- What is placed after k lines, and how many there are.
  abbrev count : ℕ
  count = length (take k (plan_for j j.losses).lines)

  count_most : (count ≤ k) × (count ≤ j.tasks)
  count_most = let e = length-take k (plan_for j j.losses).lines in omega (arith, placed_count l j facts)

  after_within : PlacedWithin j (count * (l.run_time + l.volume * l.delay)) (placed_after j k)
  unfolding earlies
  after_within d i =
      let ns = (plan_for j j.losses).lines in
      let apart = (accepted_facts j (plan_for j j.losses) (placed_accepted l j facts)).apart in
      ⊎_elim
      (apart_within l j facts least least_within (take k ns) (ordered_take j k [] ns (placed_ordered l j facts)) (λ n m. apart n (in_take k n ns m)) d)
      absurd
      (in_reverse d (earlies j (take k ns)) [] i)

  ranked_fits : Roomy l → (w : Waiting) → In w (waiting_from 0 (bottom_levels j)) → (ranked j (placed_after j k) w).1 < 2 ^ 64
  ranked_fits roomy w i =
      let s = l.run_time + l.volume * l.delay in
      omega (arith, roomy.level_room, ranked_most l j facts (count * s) (placed_after j k) w (plan_bound l j facts count count_most.1) after_within i)

  trial_fits : k < j.tasks → (t : ℕ) → t < j.tasks → (x : ℕ) → In x (trial j (placed_after j k) t) → x ≤ plan_ticks l
  trial_fits h t ht x i =
      let s = l.run_time + l.volume * l.delay in
      let more : suc count * s ≡ count * s + s = suc-mul count s in
      omega (arith, trial_most l j facts (count * s) (placed_after j k) t ht after_within x i, plan_bound l j facts (suc count) (omega (arith, count_most.0)))

pub levels_fit : (l : Limits) → Roomy l → LevelsFit l
levels_fit l roomy job j h k =
    let facts = job_facts l job j h in (ranked_fits l j facts k roomy, trial_fits l j facts k)

-- The order of edge lines -------------------------------------------------------------------------------------

pub edges_ascend : (l : Limits) → EdgesAscend l
edges_ascend l job j h = (job_facts l job j h).ascends

pub one_order : (l : Limits) → OneOrder l
one_order l job other j k h g f b = same_order j.edges k.edges (edges_ascend l job j h) (edges_ascend l other k g) f b

-- Plans on the shelf ------------------------------------------------------------------------------------------

pub shelf_ticks : (l : Limits) → ShelfTicks l
shelf_ticks l job plan j p h g =
    let facts = job_facts l job j h in
    let o = (plan_facts l j plan p g).ordered in
    (earlies_all l j facts p.lines o, lower_all l j facts p.lines o, replays_all l j facts p.lines o, lates_sooner l j facts p.lines o, upper_sooner l j facts p.lines o)

pub shelf_plans : (l : Limits) → ShelfPlans l
shelf_plans l job j h = plan_redrawn l j (job_facts l job j h)

-- With the limits of document 01 ------------------------------------------------------------------------------

pub roomy01 : Roomy document01
unfolding plan_length line_length width width_from
roomy01 =
    record {
      some_digit = omega arith;
      digits_read = omega arith;
      task_digits = omega arith;
      processor_digits = omega arith;
      losses_digits = omega arith;
      tick_digits = omega arith;
      stops_room = omega arith;
      plan_room = omega arith;
      tick_room = omega arith;
      level_room = omega arith;
    }

pub ticks01 : (plan_ticks document01 ≡ 521_277_375) × (replay_ticks document01 ≡ 2_306_277_375)
ticks01 = (refl, refl)

pub bears : (job plan stops : List ℕ) → Bears job plan stops
bears = kept_bytes document01

pub breaks : (job plan : List ℕ) → Breaks job plan
breaks = doubled_bytes document01 roomy01

pub claim : Claim
claim = (
  kept_promise document01,
  quiet_promise document01,
  late_stops document01,
  doubled_promise document01 roomy01,
  bears,
  breaks,
  own_accepted document01 roomy01,
  ticks_fit document01,
  levels_fit document01 roomy01,
  ticks01.0,
  ticks01.1,
  edges_ascend document01,
  one_order document01,
  accepted_obey document01,
  printed_obey document01 roomy01,
  shelf_ticks document01,
  shelf_plans document01,
)
