-- The clocks, replica by replica and line by line.
use Rattle.std.specs.Prelude.{if◌then◌else◌}
use Rattle.lists.proofs.Prelude.{◌≡◌, refl, ap, ◌∙◌, sym, List, ◌∷◌, ◌++◌, [], Bool, true, false, ℕ, zero, suc, ◌+◌, ◌*◌, ◌^◌, ◌%◌, ◌<◌, ◌≤◌, arith, add-one, eqb-true, eqb-false, lt-ltb, eqb, ltb, length, set, length-set, replicate, length-replicate, get_or-replicate, get_or-set_same, get_or-set_other, nth, Job, Limits, tick, Outcome, ready}
use Rattle.definitions.proofs.Ready.{first_ready_lem}
use Rattle.heads.specs.Layout.{row_at, processor_at, early_at, late_at, time_at, lanes_most}
use Rattle.jobs.specs.Held.{job_in}
use Rattle.plans.specs.Lines.{row_outcomes, placed_in, LinesHeld}
use Rattle.rounds.specs.Schedule.{ShortTo}
use Rattle.rounds.specs.Clocks.{earlies_in, lates_in, ClocksHeld, LineTimed, Advanced}
use Rattle.ticks.specs.declared.clocks.Clocks.{Clocks}
use Rattle.ticks.specs.Cells.{time_in}
use Rattle.ticks.specs.Lanes.{advanced}
use Rattle.jobs.proofs.Held.{sizes}
use Rattle.rounds.proofs.TimeLaws.{time_tick, round_most}

-- A clock that is set, if there is one for the processor.
clock_more : (j : Job) (ticks : List ℕ) {next : List ℕ} (ds : List Outcome) (o : Outcome) (x m : ℕ) → o.processor < lanes_most → o.time ≡ tick x
    → next ≡ (if ltb o.processor lanes_most then set ticks o.processor x else ticks) → length ticks ≡ lanes_most → ((q : ℕ) → q < m → tick (nth ticks q) ≡ ready j q ds)
    → (length next ≡ lanes_most) × ((q : ℕ) → q < m → tick (nth next q) ≡ ready j q (o ∷ ds))
unfolding ready
clock_more j ticks {next} ds o x m h e f z g = (ap length f' ∙ length-set ticks o.processor x ∙ z, λ q l. rw f' (by q l (eqb o.processor q) refl))
  where
    f' : next ≡ set ticks o.processor x
    f' = f ∙ rw (lt-ltb o.processor lanes_most h)

    by : (q : ℕ) → q < m → (b : Bool) → eqb o.processor q ≡ b → tick (nth (set ticks o.processor x) q) ≡ (if b then o.time else ready j q ds)
    by q l true t = rw (← eqb-true o.processor q t) (ap tick (get_or-set_same ticks o.processor x 0 (omega arith)) ∙ sym e)
    by q l false t = let n = eqb-false o.processor q t in ap tick (get_or-set_other ticks o.processor q x 0 (λ i. n (sym i))) ∙ g q l

-- No replica of the line.
pub clocks_first : (clocks : Clocks) (a : ℕ) (mem : List ℕ) (es ls : List Outcome) → ClocksHeld clocks (job_in mem) es ls
    → ClocksHeld clocks (job_in mem) (row_outcomes false a 0 mem ++ es) (row_outcomes true a 0 mem ++ ls)
unfolding row_outcomes
clocks_first clocks a mem es ls s = s

-- One replica more.
pub clocks_next : {lim : Limits} {a : ℕ} {mem : List ℕ} → LineTimed lim a mem → (clocks next : Clocks) (c : ℕ) → c < nth mem 3 + 1
    → next.early ≡ (if ltb (nth mem (processor_at a c)) lanes_most then set clocks.early (nth mem (processor_at a c)) (nth mem (early_at a c)) else clocks.early)
    → next.late ≡ (if ltb (nth mem (processor_at a c)) lanes_most then set clocks.late (nth mem (processor_at a c)) (nth mem (late_at a c)) else clocks.late)
    → (es ls : List Outcome) → ClocksHeld clocks (job_in mem) (row_outcomes false a c mem ++ es) (row_outcomes true a c mem ++ ls)
    → ClocksHeld next (job_in mem) (row_outcomes false a (c + 1) mem ++ es) (row_outcomes true a (c + 1) mem ++ ls)
unfolding row_outcomes
clocks_next {a} {mem} h clocks next c g e f es ls s =
    let b = h.row.processor_of c g in
    let m = (sizes h.job.1).lanes_fit in
    let (n, o) = h.ticks c g in
    let at : Bool → Outcome = λ late. record { task = nth mem a; processor = nth mem (processor_at a c); time = time_in (nth mem (time_at late a c)) } in
    let early = clock_more (job_in mem) clocks.early (row_outcomes false a c mem ++ es) (at false) (nth mem (early_at a c)) (job_in mem).processors (omega arith)
    (time_tick (nth mem (early_at a c)) (λ z. omega arith)) e s.early_size s.early_ready in
    let late = clock_more (job_in mem) clocks.late (row_outcomes true a c mem ++ ls) (at true) (nth mem (late_at a c)) (job_in mem).processors (omega arith)
    (time_tick (nth mem (late_at a c)) (λ z. omega arith)) f s.late_size s.late_ready in
    rw (add-one c) (record { early_size = early.0; late_size = late.0; early_ready = early.1; late_ready = late.1 })

-- The clocks after the first c replicas of the line, whose cells these are.
pub clocks_advanced : {lim : Limits} {a : ℕ} {mem : List ℕ} → LineTimed lim a mem → lim.tick < 2 ^ 32 → (cells : List ℕ)
    → ((i : ℕ) → i < 3 * (nth mem 3 + 1) → nth cells i ≡ nth mem (a + (1 + i))) → (clocks : Clocks) (c : ℕ) → c ≤ nth mem 3 + 1
    → (next : Clocks) → next.early ≡ advanced 1 c cells clocks.early → next.late ≡ advanced 2 c cells clocks.late → Advanced a c mem clocks next
unfolding advanced
clocks_advanced {a = a} {mem} h b cells k clocks zero l next e f es ls s =
    let w = clocks_first clocks a mem es ls s in
    record { early_size = rw e w.early_size; late_size = rw f w.late_size; early_ready = rw e w.early_ready; late_ready = rw f w.late_ready }
clocks_advanced {lim} {a} {mem} h b cells k clocks (suc c) l next e f es ls s =
    let before : Clocks = record { early = advanced 1 c cells clocks.early; late = advanced 2 c cells clocks.late } in
    let (x, y) = h.ticks c (omega arith) in
    let p : nth cells (3 * c) ≡ nth mem (processor_at a c) = k (3 * c) (omega arith) in
    let i : a + (1 + (3 * c + 1)) ≡ early_at a c = omega arith in
    let j : a + (1 + (3 * c + 2)) ≡ late_at a c = omega arith in
    let u : nth cells (3 * c + 1) ≡ nth mem (early_at a c) = k (3 * c + 1) (omega arith) ∙ ap (nth mem) i in
    let v : nth cells (3 * c + 2) ≡ nth mem (late_at a c) = k (3 * c + 2) (omega arith) ∙ ap (nth mem) j in
    let m : nth mem (early_at a c) % 2 ^ 32 ≡ nth mem (early_at a c) = omega arith in
    let n : nth mem (late_at a c) % 2 ^ 32 ≡ nth mem (late_at a c) = omega arith in
    rw (← add-one c)
    (clocks_next h before next c (omega arith) (e ∙ rw (p, u, m)) (f ∙ rw (p, v, n)) es ls
    (clocks_advanced h b cells k clocks c (omega arith) before refl refl es ls s))

-- A line among those whose ticks are short.
pub line_timed : {lim : Limits} {capacity n i : ℕ} {mem : List ℕ} → LinesHeld lim capacity n mem → i ≤ n → ShortTo lim capacity i mem → (k : ℕ) → k < i → LineTimed lim (row_at capacity k) mem
line_timed {capacity} {n} {i} {mem} h l s k g =
    let w = sizes h.job in
    let m = h.count in
    record {
      job = (capacity, h.job);
      row = h.row k (omega arith);
      within = omega arith;
      ticks = λ c o.
          let (x, y) = s k c g o in
          let b = (round_most h.job.tabled i (omega (arith, l, m, w.tasks_most))).1 in
          (omega arith, omega arith);
    }

-- The clocks after line k.
pub clocks_line : (capacity k : ℕ) (mem : List ℕ) (clocks : Clocks)
    → ClocksHeld clocks (job_in mem) (row_outcomes false (row_at capacity k) (nth mem 3 + 1) mem ++ earlies_in capacity k mem)
    (row_outcomes true (row_at capacity k) (nth mem 3 + 1) mem ++ lates_in capacity k mem)
    → ClocksHeld clocks (job_in mem) (earlies_in capacity (k + 1) mem) (lates_in capacity (k + 1) mem)
unfolding placed_in
clocks_line capacity k mem clocks s = rw (add-one k) s

-- All clocks are at 0.
pub outset_clocks : {j : Job} {clocks : Clocks} → j.processors ≤ lanes_most → clocks.early ≡ replicate lanes_most 0 → clocks.late ≡ replicate lanes_most 0 → ClocksHeld clocks j [] []
unfolding ready
outset_clocks {j} h e l =
    record {
      early_size = rw e (length-replicate {A = ℕ} lanes_most 0);
      late_size = rw l (length-replicate {A = ℕ} lanes_most 0);
      early_ready = λ p g. rw (e, first_ready_lem j p) (ap tick (get_or-replicate lanes_most p 0 0 (omega arith)));
      late_ready = λ p g. rw (l, first_ready_lem j p) (ap tick (get_or-replicate lanes_most p 0 0 (omega arith)));
    }
