-- The replay of a plan in memory, replica by replica and line by line.
use Rattle.lists.proofs.Prelude.{◌≡◌, refl, ap, ◌∙◌, sym, inl, inr, ⊎_elim, List, [], ◌∷◌, ◌++◌, map, map-append, Bool, true, false, ℕ, suc, ◌+◌, ◌*◌, ◌-◌, ◌<◌, ◌≤◌, mul-le-mul, arith, add-one, eq-eqb, ne_eqb, lt-leb, le-leb, set, length-set, get_or-set_same, get_or-set_other, length, nth, below, In, Limits, Edge, Job, run_time, incoming, Stop, Time, never, later, after, least, largest, Placement, Outcome, outcome, arrival, data_ready, start, ready, stop_time, finish, walk, placements_of, placement_of, tick_of, trial}
use lib.Ieee.{Float}
use Rattle.definitions.specs.Times.{unless_stopped, feeding}
use Rattle.definitions.specs.Shelf.{NoLater}
use Rattle.definitions.proofs.Lists.{map_same, map_in, below_in}
use Rattle.definitions.proofs.Tasks.{in_incoming}
use Rattle.definitions.proofs.Bounds.{weaker, trial_most}
use Rattle.definitions.proofs.Later.{later_comm, later_assoc, no_later_self, no_later_then, first_no_later, after_no_later, stopped_no_later}
use Rattle.definitions.proofs.Shelf.{settled_more}
use Rattle.heads.specs.Layout.{line_at, replicas_most, row_at, processor_at, early_at, late_at, time_at, lanes_most, replica_end}
use Rattle.orders.proofs.RunLaws.{set_cell}
use Rattle.jobs.specs.Held.{job_in, JobHeld, SomeJobHeld}
use Rattle.jobs.specs.Tables.{line_ticks}
use Rattle.ticks.specs.Cells.{never_cell, time_in, Small}
use Rattle.plans.specs.Lines.{row_outcomes, placed_in, row_replicas, row_of, RowHeld, LinesHeld, row_end}
use Rattle.rounds.specs.Schedule.{data_in}
use Rattle.lists.specs.Kept.{KeptOutside}
use Rattle.rounds.specs.Arrivals.{lane_most, Ended, EndsPut, Supplied, ready_times}
use Rattle.rounds.specs.Replaying.{StopsIn, ran_in, Running, PredecessorsBefore, Retimed, placements_in, walked, LineRun}
use Rattle.lists.proofs.Counting.{equal_or_not}
use Rattle.lists.proofs.Kept.{Same, same_before, kept_all, kept_then, kept_wider, kept_set}
use Rattle.jobs.proofs.Held.{sizes, tasks_in_lem, processors_in, job_kept, held_kept}
use Rattle.plans.proofs.Lines.{outcomes_same, placed_same, early_apart}
use Rattle.rounds.proofs.TimeLaws.{small_within, time_tick, small_wider, round_most}
use Rattle.rounds.proofs.Placed.{of_task_append, row_none, data_placed}
use Rattle.rounds.proofs.EndLaws.{ended_same, ended_line, settled_behind, supplied}

-- What changes and what does not ------------------------------------------------------------------------------------

pub retimed_none : {capacity k n : ℕ} {d : List ℕ} → Retimed capacity k n d d
retimed_none = record { outside = kept_all; task = λ i. refl; processor = λ i c h. refl; late = λ i c h. refl }

pub retimed_set : {capacity k n : ℕ} {d e : List ℕ} (i c y : ℕ) → Retimed capacity k n d e → k ≤ i → i < n → c < replicas_most → Retimed capacity k n d (set e (early_at (row_at capacity i) c) y)
retimed_set {capacity} {k} {n} {d} {e} i c y r a b h =
    let other : (j : ℕ) → (j ≡ early_at (row_at capacity i) c → ⊥) → nth (set e (early_at (row_at capacity i) c) y) j ≡ nth e j = λ j. get_or-set_other e (early_at (row_at capacity i) c) j y 0 in
    record {
      outside = kept_set (early_at (row_at capacity i) c) y r.outside (omega arith) (omega arith);
      task = λ m. other (row_at capacity m) (λ q. let z : i ≡ m = omega arith in omega arith) ∙ r.task m;
      processor = λ m n g. other (processor_at (row_at capacity m) n) (λ q. let z : i ≡ m = omega arith in (early_apart (row_at capacity i) c n).0 (omega arith)) ∙ r.processor m n g;
      late = λ m n g. other (late_at (row_at capacity m) n) (λ q. let z : i ≡ m = omega arith in (early_apart (row_at capacity i) c n).1 (omega arith)) ∙ r.late m n g;
    }

pub retimed_then : {capacity k n m : ℕ} {d e f : List ℕ} → Retimed capacity 0 n d e → Retimed capacity k m e f → m ≤ n → Retimed capacity 0 n d f
retimed_then {capacity} {k} {n} {m} p q h =
    record {
      outside = kept_then p.outside (kept_wider (row_at capacity 0) (row_at capacity n) q.outside (omega arith) (omega arith));
      task = λ i. q.task i ∙ p.task i;
      processor = λ i c g. q.processor i c g ∙ p.processor i c g;
      late = λ i c g. q.late i c g ∙ p.late i c g;
    }

module _ {capacity k n : ℕ} {d e : List ℕ} (z : Retimed capacity k n d e) where
  pub cell_retimed : (i : ℕ) → i < row_at capacity 0 → nth e i ≡ nth d i
  cell_retimed i h = z.outside.before i (omega arith)

  module _ {lim : Limits} (s : JobHeld lim capacity d) where
    pub job_retimed : job_in e ≡ job_in d
    job_retimed = job_kept s z.outside (omega arith)

    pub predecessors_retimed : (i : ℕ) → PredecessorsBefore capacity i d → PredecessorsBefore capacity i e
    predecessors_retimed i f x h =
        let w = sizes s in
        let g : In x (incoming (job_in d) (nth d (row_at capacity i))) = rw (job_retimed, z.task i) at h in
        let t : x.from < nth d 0 = rw (tasks_in_lem d) at (s.facts.from_task x (in_incoming (job_in d) (nth d (row_at capacity i)) x g).0) in
        rw (cell_retimed (line_at capacity + x.from) (omega arith)) (f x g)

  -- Lines whose early times are those of ticks still stand.
  pub standing_retimed : {lim : Limits} → LinesHeld lim capacity (nth d 0) d
      → ((i c : ℕ) → i < nth d 0 → c < nth d 3 + 1 → Small lim.tick (nth e (early_at (row_at capacity i) c))) → LinesHeld lim capacity (nth e 0) e
  standing_retimed s early =
      let w = sizes s.job in
      let j : Same 0 (row_at capacity 0) d e = same_before 0 (row_at capacity 0) z.outside (omega arith) in
      let v : nth e 0 ≡ nth d 0 = cell_retimed 0 (omega arith) in
      let m : nth e 1 ≡ nth d 1 = cell_retimed 1 (omega arith) in
      let l : nth e 3 ≡ nth d 3 = cell_retimed 3 (omega arith) in
      let line : (t : ℕ) → t < nth d 0 → nth e (line_at capacity + t) ≡ nth d (line_at capacity + t) = λ t h. cell_retimed (line_at capacity + t) (omega arith) in
      record {
        job = held_kept s.job z.outside (omega arith);
        count = omega arith;
        task_of = λ i h. rw (z.task i, v) (s.task_of i (rw v at h));
        line_of = λ i h. let g : i < nth d 0 = rw v at h in rw (z.task i, line (nth d (row_at capacity i)) (s.task_of i g)) (s.line_of i g);
        placed = λ t h.
            let g : t < nth d 0 = rw v at h in
            rw (line t g, v) (⊎_elim (λ p. inl p) (λ p. inr (p.0, p.1, p.2, z.task p.0 ∙ p.3)) (s.placed t g));
        row = λ i h.
            let r = s.row i (rw v at h) in
            record {
              processor_of = λ c g. let b : c < nth d 3 + 1 = rw l at g in rw (m, z.processor i c (omega arith)) (r.processor_of c b);
              early_of = λ c g. early i c (rw v at h) (rw l at g);
              late_of = λ c g. let b : c < nth d 3 + 1 = rw l at g in rw (z.late i c (omega arith)) (r.late_of c b);
            };
      }

-- One replica ---------------------------------------------------------------------------------------------------------

module _ {lim : Limits} {capacity : ℕ} (k c : ℕ) {cells mem : List ℕ} (r : Running lim capacity k c cells mem) (a : k < nth mem 0) (b : c < nth mem 3 + 1) (f : PredecessorsBefore capacity k mem) where
  abbrev runner : ℕ
  runner = nth mem (row_at capacity k)

  abbrev processor : ℕ
  processor = nth mem (processor_at (row_at capacity k) c)

  pub processor_below : processor < nth mem 1
  processor_below = (r.standing.row k a).processor_of c b

  -- The data comes from the lines before.
  data_ran : data_ready (job_in mem) least (ran_in capacity k c mem) runner processor ≡ data_in capacity false runner processor mem
  unfolding data_ready arrival feeding ran_in
  data_ran =
      ap largest
      (map_same (arrival (job_in mem) least (ran_in capacity k c mem) processor) (arrival (job_in mem) least (placed_in capacity false (nth mem 3 + 1) k mem) processor)
      (incoming (job_in mem) runner) λ e i.
      let l = (f e i).1 in
      let own = r.standing.line_of k a in
      rw (
        of_task_append e.from (row_outcomes false (row_at capacity k) c mem) (placed_in capacity false (nth mem 3 + 1) k mem),
        row_none false mem e.from (row_at capacity k) c
            (λ q. let g : nth mem (line_at capacity + e.from) ≡ suc k = rw q at own in omega arith),
      ))
      ∙ sym (data_placed r.standing k runner (omega arith) f false processor)

  module _ (x : ℕ) (e : time_in x ≡ after (run_time (job_in mem) runner processor) (later (time_in (nth cells processor)) (data_in capacity false runner processor mem))) where
    -- The finish under stops, from the finish without.
    pub finish_ran : (ss : List Stop) → finish (job_in mem) least ss (ran_in capacity k c mem) (placement_of (job_in mem) runner processor) ≡ unless_stopped (stop_time ss processor) (time_in x)
    unfolding finish start
    finish_ran ss = rw (e, data_ran, r.ready_of processor processor_below)

    pub finish_small : Small ((k * replicas_most + c) * line_ticks lim + line_ticks lim) x
    unfolding trial stop_time
    finish_small =
        let j = job_in mem in
        let s = r.standing.job.facts in
        let here : ℕ = tick_of (finish j least [] (ran_in capacity k c mem) (placement_of j runner processor)) in
        let among : In here (trial j (ran_in capacity k c mem) runner) =
        map_in (λ y. tick_of (finish j least [] (ran_in capacity k c mem) y)) (placement_of j runner processor) (placements_of j runner (below j.processors))
        (map_in (placement_of j runner) processor (below j.processors) (below_in j.processors processor (rw (processors_in mem) processor_below))) in
        let most : here ≤ (k * replicas_most + c) * line_ticks lim + line_ticks lim =
        trial_most lim j s ((k * replicas_most + c) * line_ticks lim) (ran_in capacity k c mem) runner (rw (tasks_in_lem mem) (r.standing.task_of k a))
        r.within here among in
        ⊎_elim inl (λ n. let q : here ≡ x = ap tick_of (finish_ran [] ∙ time_tick x n) in inr (omega arith)) (equal_or_not x never_cell)

    -- Its outcome y takes the place of its early tick and becomes its processor's ready time.
    module _ (y : ℕ) (n : (b : ℕ) → Small b x → Small b y) (v : NoLater (time_in x) (time_in y)) where
      abbrev mem' : List ℕ
      mem' = set mem (early_at (row_at capacity k) c) y

      abbrev cells' : List ℕ
      cells' = set cells processor y

      abbrev here : Outcome
      here = record { task = runner; processor = processor; time = time_in y }

      retimed : Retimed capacity k (suc k) mem mem'
      retimed = let w = sizes r.standing.job in retimed_set k c y retimed_none (omega arith) (omega arith) (omega arith)

      small_here : Small ((k * replicas_most + (c + 1)) * line_ticks lim) y
      small_here =
          small_wider ((k * replicas_most + c) * line_ticks lim + line_ticks lim) ((k * replicas_most + (c + 1)) * line_ticks lim) y (omega arith)
          (n ((k * replicas_most + c) * line_ticks lim + line_ticks lim) finish_small)

      pub ran_next : ran_in capacity k (c + 1) mem' ≡ here ∷ ran_in capacity k c mem
      unfolding ran_in row_outcomes
      ran_next =
          let w = sizes r.standing.job in
          let i : ℕ = early_at (row_at capacity k) c in
          let one : KeptOutside i (i + 1) mem mem' = kept_set i y kept_all (omega arith) (omega arith) in
          rw (
            add-one c,
            retimed.task k,
            retimed.processor k c (omega arith),
            get_or-set_same mem (early_at (row_at capacity k) c) y 0 (omega arith),
            cell_retimed retimed 3 (omega arith),
            outcomes_same mem mem' false (row_at capacity k) c (same_before (row_at capacity k) (processor_at (row_at capacity k) c) one (omega arith)),
            placed_same mem mem' capacity false (nth mem 3 + 1) k (omega arith) (same_before (row_at capacity 0) (row_at capacity k) one (omega arith)),
          )

      -- It finishes no sooner than its processor was ready.
      started : NoLater (time_in (nth cells processor)) (time_in y)
      started =
          let z = time_in (nth cells processor) in
          let begin = later z (data_in capacity false runner processor mem) in
          let run = run_time (job_in mem) runner processor in
          no_later_then z (time_in x) (time_in y)
          (rw e (no_later_then z begin (after run begin) (first_no_later z (data_in capacity false runner processor mem)) (after_no_later run begin))) v

      running_next : Running lim capacity k (c + 1) cells' mem'
      unfolding ready
      running_next =
          let w = sizes r.standing.job in
          let j : job_in mem' ≡ job_in mem = job_retimed retimed r.standing.job in
          let m : nth mem' 1 ≡ nth mem 1 = cell_retimed retimed 1 (omega arith) in
          let most : (k * replicas_most + c) * line_ticks lim ≤ (k * replicas_most + (c + 1)) * line_ticks lim = omega arith in
          let range = (round_most w.tabled (k * replicas_most + (c + 1)) (omega (arith, a, b, w.tasks_most, w.row_fits))).1 in
          record {
            standing = standing_retimed retimed r.standing λ i q h g.
                set_cell (Small lim.tick) mem (early_at (row_at capacity k) c) (early_at (row_at capacity i) q) y (omega arith)
                (λ e. small_wider ((k * replicas_most + (c + 1)) * line_ticks lim) lim.tick y range small_here)
                (λ e. (r.standing.row i h).early_of q g);
            size = length-set cells processor y ∙ r.size;
            ready_of = λ p h.
                rw (j, ran_next)
                (set_cell (λ z. time_in z ≡ ready (job_in mem) p (here ∷ ran_in capacity k c mem)) cells processor p y (omega (arith, processor_below, r.size))
                (λ e. rw (eq-eqb processor p (sym e)))
                (λ e. rw (ne_eqb processor p (λ q. e (sym q))) (r.ready_of p (rw m at h))));
            ready_small = λ p h.
                set_cell (Small ((k * replicas_most + (c + 1)) * line_ticks lim)) cells processor p y (omega (arith, processor_below, r.size))
                (λ e. small_here)
                (λ e. small_wider ((k * replicas_most + c) * line_ticks lim) ((k * replicas_most + (c + 1)) * line_ticks lim) (nth cells p) most (r.ready_small p (rw m at h)));
            within = rw (j, ran_next) (λ d i.
                ⊎_elim
                (λ q. rw (← q, processors_in mem) (processor_below, small_within ((k * replicas_most + (c + 1)) * line_ticks lim) y small_here))
                (λ q. let (g, t) = r.within d q in (g, weaker d.time most t))
                i);
            settled = rw (j, ran_next) (settled_more (job_in mem) here (ran_in capacity k c mem) (rw (r.ready_of processor processor_below) at started) r.settled);
          }

-- A line --------------------------------------------------------------------------------------------------------------

-- One more replica runs after the others; so do more replicas.
walked_more : (j : Job) (ss : List Stop) (placed : List Outcome) (cs : List Placement) (y : Placement)
    → walked j ss placed (cs ++ y ∷ []) ≡ outcome y (finish j least ss (walked j ss placed cs) y) ∷ walked j ss placed cs
unfolding walked walk
walked_more j ss placed [] y = refl
walked_more j ss placed (c ∷ cs) y = walked_more j ss (outcome c (finish j least ss placed c) ∷ placed) cs y

pub walked_append : (j : Job) (ss : List Stop) (placed : List Outcome) (bs cs : List Placement) → walked j ss placed (bs ++ cs) ≡ walked j ss (walked j ss placed bs) cs
unfolding walked walk
walked_append j ss placed [] cs = refl
walked_append j ss placed (b ∷ bs) cs = walked_append j ss (outcome b (finish j least ss placed b) ∷ placed) bs cs

placements_next : (capacity : ℕ) (k c : ℕ) (mem : List ℕ) → placements_in capacity k (c + 1) mem ≡ placements_in capacity k c mem ++ placement_of (job_in mem) (nth mem (row_at capacity k))
    (nth mem (processor_at (row_at capacity k) c)) ∷ []
unfolding placements_in row_replicas
placements_next capacity k c mem =
    let t = nth mem (row_at capacity k) in
    rw (add-one c, map-append (λ r. r.processor) (row_replicas (row_at capacity k) c mem) (_ ∷ []))
    (map-append (placement_of (job_in mem) t) (map (λ r. r.processor) (row_replicas (row_at capacity k) c mem)) (_ ∷ []))

-- What is asked where line k starts: its predecessors have run, and processors are ready in a plan's range.
pub line_supplied : {lim : Limits} {capacity : ℕ} (k : ℕ) {cells d : List ℕ} {ends : List Float} → Running lim capacity k 0 cells d → k < nth d 0
    → PredecessorsBefore capacity k d → Ended lim capacity k d ends
    → ((p : ℕ) → p < nth d 1 → Small lim.tick (nth cells p)) × Supplied lim capacity (nth d (row_at capacity k)) (ready_times cells) d ends
unfolding ran_in row_outcomes
line_supplied {lim} {capacity} k {cells} {d} r a f ended =
    let w = sizes r.standing.job in
    let range = (round_most w.tabled (k * replicas_most + 0) (omega (arith, a, w.tasks_most))).1 in (
      λ p h. small_wider ((k * replicas_most + 0) * line_ticks lim) lim.tick (nth cells p) range (r.ready_small p h),
      supplied r.standing (omega arith) (nth d (row_at capacity k)) f (ready_times cells) ended behind,
    )
  where
    behind : (late : Bool) (e : Edge) (c : ℕ) → In e (incoming (job_in d) (nth d (row_at capacity k))) → c < nth d 3 + 1
        → NoLater (time_in (nth d (time_at late (row_of capacity e.from d) c))) (ready_times cells late (nth d (processor_at (row_of capacity e.from d) c)))
    behind true e c i h = later_comm (time_in (nth d (time_at true (row_of capacity e.from d) c))) never
    behind false e c i h =
        let (g, m) = f e i in
        rw (r.ready_of _ ((r.standing.row (nth d (line_at capacity + e.from) - 1) (omega arith)).processor_of c h))
        (settled_behind r.standing (omega arith) (nth d (row_at capacity k)) f false r.settled e c i h)

-- c replicas of line k have run, from a memory d and ready times in the first cells.
pub record LineRuns (lim : Limits) (capacity k c : ℕ) (stops first cells d e : List ℕ) : Type 0 where
  pub standing : LinesHeld lim capacity (nth d 0) d
  pub line : k < nth d 0
  pub predecessors : PredecessorsBefore capacity k d
  pub running : Running lim capacity k c cells e
  pub waited : (p : ℕ) → p < nth d 1 → NoLater (time_in (nth first p)) (time_in (nth cells p))
  pub retimed : Retimed capacity k (suc k) d e
  pub outcomes : (ss : List Stop) → StopsIn ss stops → ran_in capacity k c e ≡ walked (job_in d) ss (placed_in capacity false (nth d 3 + 1) k d) (placements_in capacity k c d)

pub line_first : {lim : Limits} {capacity : ℕ} (k : ℕ) (stops : List ℕ) {cells d : List ℕ} → Running lim capacity k 0 cells d → k < nth d 0 → PredecessorsBefore capacity k d
    → LineRuns lim capacity k 0 stops cells cells d d
unfolding ran_in row_outcomes placements_in row_replicas walked walk
line_first k stops {cells} r a f =
    record {
      standing = r.standing;
      line = a;
      predecessors = f;
      running = r;
      waited = λ p h. no_later_self (time_in (nth cells p));
      retimed = retimed_none;
      outcomes = λ ss h. refl;
    }

-- The next replica, of task t on p: its processor, what its run time is asked by, and when the processor is ready.
pub record LineStep (lim : Limits) (t p : ℕ) (cells d e : List ℕ) : Type 0 where
  pub processor : p < nth d 1
  pub asked : SomeJobHeld lim e × (t < nth e 0) × (p < nth e 1)
  pub below : p < lanes_most
  pub ready_small : Small (lane_most lim) (nth cells p)

module _ {lim : Limits} {capacity k c : ℕ} {stops first cells d e : List ℕ} (l : LineRuns lim capacity k c stops first cells d e) where
  abbrev ran : Running lim capacity k c cells e
  ran = l.running

  line_below : k < nth e 0
  line_below = rw (cell_retimed l.retimed 0 (omega arith)) l.line

  line_predecessors : PredecessorsBefore capacity k e
  line_predecessors = predecessors_retimed l.retimed l.standing.job k l.predecessors

  -- The data of the line is what it was before.
  line_data : (p : ℕ) → data_in capacity false (nth e (row_at capacity k)) p e ≡ data_in capacity false (nth d (row_at capacity k)) p d
  line_data p =
      let w = sizes l.standing.job in
      data_placed ran.standing k (nth e (row_at capacity k)) (omega (arith, line_below)) line_predecessors false p
      ∙ rw (
        job_retimed l.retimed l.standing.job,
        l.retimed.task k,
        cell_retimed l.retimed 3 (omega arith),
        placed_same d e capacity false (nth d 3 + 1) k (omega arith) (same_before (row_at capacity 0) (row_at capacity k) l.retimed.outside (omega arith)),
      )
      (sym (data_placed l.standing k (nth d (row_at capacity k)) (omega arith) l.predecessors false p))

  module _ (b : c < nth d 3 + 1) where
    abbrev its : ℕ
    its = nth e (processor_at (row_at capacity k) c)

    replica_below : c < nth e 3 + 1
    replica_below = rw (cell_retimed l.retimed 3 (omega arith)) b

    its_below : its < nth e 1
    its_below = processor_below k c ran line_below replica_below line_predecessors

    pub line_room : {row : ℕ} → row ≡ row_at capacity k → replica_end row c ≤ length e
    line_room o = omega (arith, sizes l.running.standing.job, line_below, replica_below, o)

    its_step : LineStep lim (nth d (row_at capacity k)) its cells d e
    its_step =
        let w = sizes l.standing.job in
        let h : its < nth d 1 = rw (cell_retimed l.retimed 1 (omega arith)) at its_below in
        let range = (round_most w.tabled (k * replicas_most + c) (omega (arith, l.line, b, w.tasks_most, w.row_fits))).1 in
        record {
          processor = h;
          asked = ((_, ran.standing.job), rw (cell_retimed l.retimed 0 (omega arith)) (l.standing.task_of k l.line), its_below);
          below = omega arith;
          ready_small = small_wider ((k * replicas_most + c) * line_ticks lim) (lane_most lim) (nth cells its) (omega (arith, range)) (ran.ready_small its its_below);
        }

    its_next : (supplied run x y : ℕ)
        → time_in supplied ≡ later (time_in (nth first its)) (data_in capacity false (nth d (row_at capacity k)) its d)
        → run ≡ run_time (job_in e) (nth d (row_at capacity k)) its
        → time_in x ≡ after run (later (time_in (nth cells its)) (time_in supplied))
        → time_in y ≡ unless_stopped (time_in (nth stops its)) (time_in x)
        → ((b : ℕ) → Small b x → Small b y)
        → LineRuns lim capacity k (c + 1) stops first (set cells its y) d (set e (early_at (row_at capacity k) c) y)
    its_next supplied run x y o z p₀ q n =
        let w = sizes l.standing.job in
        let g = line_below in
        let u = replica_below in
        let v = line_predecessors in
        let own : run_time (job_in e) (nth e (row_at capacity k)) its ≡ run = rw (l.retimed.task k) (sym z) in
        let now = time_in (nth cells its) in
        let begin = time_in (nth first its) in
        let its-data = data_in capacity false (nth d (row_at capacity k)) its d in
        let waited : NoLater begin now = l.waited its its_step.processor in
        let begun : later now (later begin its-data) ≡ later now its-data =
        sym (later_assoc now begin its-data) ∙ ap (λ (z : Time). later z its-data) (later_comm now begin ∙ waited) in
        let p : time_in x ≡ after (run_time (job_in e) (nth e (row_at capacity k)) its) (later (time_in (nth cells its)) (data_in capacity false (nth e (row_at capacity k)) its e)) = rw
        (line_data its, ← begun, ← o, own) p₀ in
        let late : NoLater (time_in x) (time_in y) = rw q (stopped_no_later (time_in (nth stops its)) (time_in x)) in
        record {
          standing = l.standing;
          line = l.line;
          predecessors = l.predecessors;
          running = running_next k c ran g u v x p y n late;
          waited = λ i h.
              set_cell (λ z. NoLater (time_in (nth first i)) (time_in z)) cells its i y (omega (arith, its_step.below, ran.size))
              (λ (q : i ≡ its). rw q (no_later_then begin now (time_in y) waited (started k c ran g u v x p y n late)))
              (λ q. l.waited i h);
          retimed = retimed_set k c y l.retimed (omega arith) (omega arith) (omega arith);
          outcomes = λ ss h.
              let j : job_in e ≡ job_in d = job_retimed l.retimed l.standing.job in
              let o : finish (job_in e) least ss (ran_in capacity k c e) (placement_of (job_in e) (nth e (row_at capacity k)) its) ≡ time_in y =
              finish_ran k c ran g u v x p ss ∙ rw (← h its its_step.below) (sym q) in
              ran_next k c ran g u v x p y n late
              ∙ rw (
                placements_next capacity k c d,
                walked_more (job_in d) ss (placed_in capacity false (nth d 3 + 1) k d) (placements_in capacity k c d)
                    (placement_of (job_in d) (nth d (row_at capacity k)) (nth d (processor_at (row_at capacity k) c))),
                ← l.outcomes ss h,
                ← j,
                ← l.retimed.task k,
                ← l.retimed.processor k c (omega arith),
                o,
              );
        }

    -- The line is at row, and its next replica is on p.
    module _ {row p : ℕ} (o : row ≡ row_at capacity k) (q : p ≡ nth e (processor_at row c)) where
      its_here : p ≡ its
      its_here = rw o at q

      pub line_step : LineStep lim (nth d row) p cells d e
      line_step = rw (o, its_here) its_step

      -- It waits for its data, runs, and is stopped or not.
      pub line_next : (supplied run x y : ℕ)
          → time_in supplied ≡ later (time_in (nth first p)) (data_in capacity false (nth d row) p d)
          → run ≡ run_time (job_in e) (nth d row) p
          → time_in x ≡ after run (later (time_in (nth cells p)) (time_in supplied))
          → time_in y ≡ unless_stopped (time_in (nth stops p)) (time_in x)
          → ((b : ℕ) → Small b x → Small b y)
          → LineRuns lim capacity k (c + 1) stops first (set cells p y) d (set e (early_at row c) y)
      line_next supplied run x y h i m n v =
          rw (o, its_here) (its_next supplied run x y (rw (o, its_here) at h) (rw (o, its_here) at i) (rw its_here at m) (rw its_here at n) v)

  pub line_done : c ≡ nth d 3 + 1 → Running lim capacity (suc k) 0 cells e × LineRun capacity k stops d e
  unfolding ran_in placed_in row_outcomes
  line_done q =
      let w = sizes l.standing.job in
      let three : nth e 3 ≡ nth d 3 = cell_retimed l.retimed 3 (omega arith) in
      let same : ran_in capacity k c e ≡ ran_in capacity (suc k) 0 e = let full : c ≡ nth e 3 + 1 = omega arith in rw full in
      let most = mul-le-mul {n₁ = k * replicas_most + c} {m₁ = line_ticks lim} {n₂ = suc k * replicas_most + 0} {m₂ = line_ticks lim} (omega (arith, q, w.row_fits)) (omega arith) in (
        record {
          standing = ran.standing;
          size = ran.size;
          ready_of = λ p g. rw (← same) (ran.ready_of p g);
          ready_small = λ p g. small_wider ((k * replicas_most + c) * line_ticks lim) ((suc k * replicas_most + 0) * line_ticks lim) (nth cells p) most (ran.ready_small p g);
          within = rw (← same) (λ x i. let (g, t) = ran.within x i in (g, weaker x.time most t));
          settled = rw (← same) ran.settled;
        },
        record { retimed = l.retimed; outcomes = λ ss h. sym same ∙ l.outcomes ss h ∙ rw q },
      )

  -- Where its ends are noted from, and then they are.
  module _ {row : ℕ} (o : row ≡ row_at capacity k) {ends : List Float} (h : Ended lim capacity k d ends) where
    pub line_row : SomeJobHeld lim e × RowHeld lim row e × (row_end row ≤ length e) × (nth d row < nth d 0) × (2 * nth d row + 1 < length ends)
    line_row =
        let z = sizes ran.standing.job in
        let t : nth d row < nth d 0 = rw o (l.standing.task_of k l.line) in
        ((_, ran.standing.job), rw o (ran.standing.row k line_below), omega (arith, z, line_below, o), t, omega (arith, t, h.size))

    pub line_ended : {next : List Float} → EndsPut lim row (nth d row) e ends next → Ended lim capacity (suc k) e next
    line_ended {next} put =
        let w = sizes l.standing.job in
        let kept : Same (row_at capacity 0) (row_at capacity k) d e = same_before (row_at capacity 0) (row_at capacity k) l.retimed.outside (omega arith) in
        let before = ended_same h (cell_retimed l.retimed 0 (omega arith)) (cell_retimed l.retimed 3 (omega arith)) (omega arith) kept in
        rw (add-one k) at (ended_line {next = next} ran.standing line_below before (rw (l.retimed.task k) (rw o at put)))

-- A stop in a cell ------------------------------------------------------------------------------------------------------

module _ (stop x : ℕ) (h : x ≤ never_cell) where
  pub stopped_late : stop < x → time_in never_cell ≡ unless_stopped (time_in stop) (time_in x)
  stopped_late g =
      rw (time_tick stop (λ e. omega arith))
      (⊎_elim (λ (e : x ≡ never_cell). rw e) (λ n. rw (time_tick x n, lt-leb x stop g)) (equal_or_not x never_cell))

  pub stopped_by : x ≤ stop → stop ≤ never_cell → time_in x ≡ unless_stopped (time_in stop) (time_in x)
  stopped_by g i =
      ⊎_elim
      (λ (e : stop ≡ never_cell). rw e)
      (λ n. rw (time_tick stop n, time_tick x (λ e. n (omega arith)), le-leb x stop g))
      (equal_or_not stop never_cell)
