-- Tables with a lane for each processor: the delays, and when data is there.
use Rattle.std.specs.Prelude.{if◌then◌else◌}
use Rattle.lists.proofs.Prelude.{◌≡◌, refl, ap, ◌∙◌, sym, List, [], ◌∷◌, ◌++◌, map, append-nil, append_assoc, Bool, true, false, ℕ, zero, suc, ◌+◌, ◌-◌}
use Rattle.lists.proofs.Prelude.{◌*◌, ◌/◌, ◌%◌, ◌^◌, ◌<◌, ◌≤◌, min, arith, mul-le-mul, add-one, add-zero, sub-zero, eqb-true, eqb-false, eq-eqb, ltb-true}
use Rattle.lists.proofs.Prelude.{ltb-false, lt-ltb, le-ltb, ltb, eqb, set, replicate, length-replicate, get_or-replicate, get_or-set_same}
use Rattle.lists.proofs.Prelude.{get_or-set_other, nth, In, incoming, delay, Edge, Time, tick, never, later, sooner, after, least, largest, Outcome}
use Rattle.lists.proofs.Prelude.{Limits}
use lib.Ieee.{Float, nan}
use native.Mathlib.Nat.{lt_of_not-le}
use Rattle.definitions.specs.Times.{times, message}
use Rattle.definitions.specs.Shelf.{NoLater}
use Rattle.definitions.proofs.Later.{later_comm, later_assoc, later_zero, no_later_then}
use Rattle.definitions.proofs.Arrivals.{own_time, own_last, least_last, largest_last, arrival_least, arrival_largest, least_waits_not, largest_waits_not}
use Rattle.orders.specs.Edges.{edge_in}
use Rattle.orders.proofs.Walk.{Passed}
use Rattle.heads.specs.Layout.{job_size, processor_at, time_at, lanes_most}
use Rattle.ticks.specs.Cells.{time_in}
use Rattle.ticks.specs.Floats.{whole, time_of, Held, lane, lane_time}
use Rattle.ticks.specs.Lanes.{lanes, lesser, greater, sent, delay_at, lane_in, least_lane}
use Rattle.ticks.proofs.HeldLaws.{Holds, whole_holds, held_more, held_in, sent_holds, lesser_holds, greater_holds, least_holds}
use Rattle.ticks.proofs.LaneLaws.{lanes_each}
use Rattle.rounds.specs.Schedule.{edge_from, choice_of, arrival_in, data_in, PredecessorsPlaced}
use Rattle.rounds.specs.Arrivals.{lane_most, DelayTable, DelaysTo, NoDelayOver, TimeTable, OfHalf, HalfTable, LanesHeld, Raised, RaisedBy, RaisedIn, EdgeEnds}
use Rattle.rounds.specs.Arrivals.{Supplied, lane_times, end_at, BothSupplied, ShortTicks, TicksHeld, delay_cells}
use Rattle.rounds.specs.declared.times.Delays.{Delays}
use Rattle.jobs.specs.Held.{job_in, JobHeld}
use Rattle.jobs.specs.Tables.{last_short}
use Rattle.plans.specs.Lines.{row_outcomes, row_of, LinesHeld}
use Rattle.jobs.proofs.Held.{sizes, job_same, processors_in}
use Rattle.lists.proofs.Kept.{Same}
use Rattle.rounds.proofs.Placed.{arrival_of, row_outcome, row_all, in_row, data_walked}
use Rattle.rounds.proofs.Outcomes.{comes_later, data_comes}
use Rattle.rounds.proofs.TimeLaws.{gathered, gather_none, gather_next, gather_done, message_most_lem, feeds}

-- The table of delays -----------------------------------------------------------------------------------------------

-- No delay is in the table yet.
pub delays_none : {lim : Limits} {mem : List ℕ} {d : Delays} → d.table ≡ replicate delay_cells 0 → d.most ≡ 0 → DelaysTo lim mem 0 d
delays_none {d} e f =
    record {
      size = rw e (length-replicate {A = ℕ} delay_cells 0);
      cell = λ q p a b l. absurd (omega arith);
      over = λ k l. rw (e, get_or-replicate {A = ℕ} delay_cells k 0 0 l) (omega arith);
      within = omega (arith, f);
    }

-- The table is that of a memory with the same job.
pub delays_kept : {lim : Limits} {capacity : ℕ} {delays d e : List ℕ} → JobHeld lim capacity d → Same 0 (job_size capacity) d e → DelayTable lim delays d → DelayTable lim delays e
delays_kept {delays} {d} {e} h j t =
    let m : nth e 1 ≡ nth d 1 = j.cell 1 (omega arith) (omega arith) in
    record { cell = λ q p a b. rw (job_same (sizes h) j) (t.cell q p (rw m at a) (rw m at b)); most = t.most }

-- Tables of times ---------------------------------------------------------------------------------------------------

module _ {lim : Limits} {mem : List ℕ} where
  -- The same times.
  pub table_same : {f g : ℕ → Time} {e : List Float} → ((p : ℕ) → p < nth mem 1 → f p ≡ g p) → TimeTable lim f mem e → TimeTable lim g mem e
  table_same h t = record { time = λ p o. t.time p o ∙ h p o; held = t.held }

  pub table_held : {f : ℕ → Time} {e : List Float} → TimeTable lim f mem e → LanesHeld lim mem e
  table_held t = record { time = λ p o. refl; held = t.held }

  -- One time for all.
  pub table_all : {t : Time} (x : Float) → nth mem 1 ≤ lanes_most → Holds (lane_most lim) x t → TimeTable lim (λ p. t) mem (replicate lanes_most x)
  table_all {t} x few h =
      let each : (p : ℕ) → p < nth mem 1 → lane (replicate lanes_most x) p ≡ x = λ p o. get_or-replicate {A = Float} lanes_most p x nan (omega arith) in
      record { time = λ p o. rw (each p o) h.1; held = λ p o. rw (each p o) h.0 }

  -- All lanes changed.
  pub table_lanes : {f g : ℕ → Time} {d e : List Float} (op : ℕ → Float → Float) → nth mem 1 ≤ lanes_most → TimeTable lim f mem d
      → ((p : ℕ) → p < nth mem 1 → Holds (lane_most lim) (op p (lane d p)) (g p)) → e ≡ lanes op 16 d → TimeTable lim g mem e
  table_lanes {d = d} {e} op few t h i =
      let each : (p : ℕ) → p < nth mem 1 → lane e p ≡ op p (lane d p) = λ p o. lanes_each op d e i p (omega arith) (held_in d p (t.held p o)) in
      record { time = λ p o. rw (each p o) (h p o).1; held = λ p o. rw (each p o) (h p o).0 }

module _ {lim : Limits} {capacity : ℕ} {mem : List ℕ} (held : JobHeld lim capacity mem) where
  few : nth mem 1 ≤ lanes_most
  few = (sizes held).lanes_fit

  fine : lane_most lim ≤ 2 ^ 53
  fine = held.tabled.cell_fits

-- Tables of a half ----------------------------------------------------------------------------------------------------

-- A processor of the half has its own lane there, one of none of these lanes.
lane_here : (q h i : ℕ) → i < 8 → q ≡ 8 * h + i → lane_in q h ≡ i
lane_here q h i l e = rw (eq-eqb (q / 8) h (omega arith)) (omega arith)

lane_apart : (q h i : ℕ) → i < 8 → (q ≡ 8 * h + i → ⊥) → i ≡ lane_in q h → ⊥
lane_apart q h i l n = by (eqb (q / 8) h) refl
  where
    by : (b : Bool) → eqb (q / 8) h ≡ b → i ≡ (if b then q % 8 else 8) → ⊥
    by true e g = let z = eqb-true (q / 8) h e in n (omega arith)
    by false e g = omega arith

module _ {lim : Limits} {h : ℕ} {mem : List ℕ} where
  -- The same times.
  pub half_same : {f g : ℕ → Time} {e : List Float} → ((p : ℕ) → p < nth mem 1 → f p ≡ g p) → HalfTable lim h f mem e → HalfTable lim h g mem e
  half_same k t = record { time = λ i o. t.time i o ∙ k (8 * h + i) o.1; held = t.held }

  -- One time for all.
  pub half_all : {t : Time} (n : ℕ) (x : Float) → 8 ≤ n → Holds (lane_most lim) x t → HalfTable lim h (λ p. t) mem (replicate n x)
  half_all {t} n x l k =
      let each : (i : ℕ) → OfHalf h mem i → lane (replicate n x) i ≡ x = λ i o. get_or-replicate {A = Float} n i x nan (omega (arith, o.0)) in
      record { time = λ i o. rw (each i o) k.1; held = λ i o. rw (each i o) k.0 }

  -- The lane of one processor changed, if it is of the half.
  pub half_set : {f : ℕ → Time} {e : List Float} {t : Time} (q : ℕ) (x : Float) → HalfTable lim h f mem e → Holds (lane_most lim) x t
      → HalfTable lim h (λ p. if eqb q p then t else f p) mem (set e (lane_in q h) x)
  half_set {f} {e} {t} q x s k = record { time = λ i o. (by i o (eqb q (8 * h + i)) refl).1; held = λ i o. (by i o (eqb q (8 * h + i)) refl).0 }
    where
      by : (i : ℕ) → OfHalf h mem i → (b : Bool) → eqb q (8 * h + i) ≡ b → Holds (lane_most lim) (lane (set e (lane_in q h) x) i) (if b then t else f (8 * h + i))
      by i o true g = rw (lane_here q h i o.0 (eqb-true q (8 * h + i) g), get_or-set_same e i x nan (held_in e i (s.held i o))) k
      by i o false g = rw (get_or-set_other e (lane_in q h) i x nan (lane_apart q h i o.0 (eqb-false q (8 * h + i) g))) (s.held i o, s.time i o)

  -- All lanes changed.
  pub half_lanes : {f g : ℕ → Time} {d e : List Float} (op : ℕ → Float → Float) → HalfTable lim h f mem d
      → ((i : ℕ) → OfHalf h mem i → Holds (lane_most lim) (op i (lane d i)) (g (8 * h + i))) → e ≡ lanes op 8 d → HalfTable lim h g mem e
  half_lanes {d = d} {e} op t k g =
      let each : (i : ℕ) → OfHalf h mem i → lane e i ≡ op i (lane d i) = λ i o. lanes_each op d e g i o.0 (held_in d i (t.held i o)) in
      record { time = λ i o. rw (each i o) (k i o).1; held = λ i o. rw (each i o) (k i o).0 }

module _ {lim : Limits} {capacity : ℕ} {mem : List ℕ} (held : JobHeld lim capacity mem) {h : ℕ} {f g : ℕ → Time} {d e low : List Float} where
  module _ (t : HalfTable lim h f mem d) (u : HalfTable lim h g mem low) where
    half_raise : e ≡ lanes (λ p z. greater z (lane low p)) 8 d → HalfTable lim h (λ p. later (f p) (g p)) mem e
    half_raise = half_lanes (λ p z. greater z (lane low p)) t (λ i o. greater_holds (fine held) (t.held i o, t.time i o) (u.held i o, u.time i o))

    half_lower : e ≡ lanes (λ p z. lesser (lane low p) z) 8 d → HalfTable lim h (λ p. sooner (f p) (g p)) mem e
    half_lower = half_lanes (λ p z. lesser (lane low p) z) t (λ i o. lesser_holds (fine held) (u.held i o, u.time i o) (t.held i o, t.time i o))

  -- A whole table, raised to the times of a half.
  pub table_raise : TimeTable lim f mem d → HalfTable lim h g mem low → h < 2
      → e ≡ lanes (λ p z. if eqb (p / 8) (h % 2) then greater z (lane low (p % 8)) else z) 16 d
      → TimeTable lim (λ p. if eqb (p / 8) h then later (f p) (g p) else f p) mem e
  table_raise t u l i =
      let same : h % 2 ≡ h = omega arith in
      table_lanes (λ p z. if eqb (p / 8) h then greater z (lane low (p % 8)) else z) (few held) t (λ p o. by p o (eqb (p / 8) h) refl) (rw same at i)
    where
      by : (p : ℕ) → p < nth mem 1 → (b : Bool) → eqb (p / 8) h ≡ b
          → Holds (lane_most lim) (if b then greater (lane d p) (lane low (p % 8)) else lane d p) (if b then later (f p) (g p) else f p)
      by p o false q = (t.held p o, t.time p o)
      by p o true q =
          let same = eqb-true (p / 8) h q in
          let here : 8 * h + p % 8 ≡ p = omega arith in
          let on : OfHalf h mem (p % 8) = (omega arith, rw here o) in
          greater_holds (fine held) (t.held p o, t.time p o) (u.held (p % 8) on, rw here at (u.time (p % 8) on))

-- The halves below h were raised to the data of the line at a, by an edge of this volume.
abbrev pub HalvesRaised : Limits → ℕ → Bool → ℕ → ℕ → List ℕ → List Float → List Float → Type 0
HalvesRaised lim h late volume a mem e f = TimeTable lim (λ p. if ltb p (8 * h) then later (lane_time e p) (arrival_in late volume p a mem) else lane_time e p) mem f

module _ {lim : Limits} {mem : List ℕ} (late : Bool) (volume a : ℕ) (e : List Float) where
  pub halves_next : (h : ℕ) {f g : List Float} → HalvesRaised lim h late volume a mem e f → RaisedIn lim h late volume a mem f g → HalvesRaised lim (h + 1) late volume a mem e g
  halves_next h {f} t r = table_same (λ p o. rw (t.time p o) (by p (ltb p (8 * h)) (eqb (p / 8) h) refl refl)) r
    where
      beyond : (p : ℕ) → 8 * h ≤ p → (p / 8 ≡ h → ⊥) → 8 * (h + 1) ≤ p
      beyond p l n = let k : 8 * (h + 1) < p + 1 = lt_of_not-le (λ (k : p + 1 ≤ 8 * (h + 1)). n (omega arith)) in omega arith

      by : (p : ℕ) (b c : Bool) → ltb p (8 * h) ≡ b → eqb (p / 8) h ≡ c
          → (if c then later (if b then later (lane_time e p) (arrival_in late volume p a mem) else lane_time e p) (arrival_in late volume p a mem)
          else if b then later (lane_time e p) (arrival_in late volume p a mem) else lane_time e p)
          ≡ (if ltb p (8 * (h + 1)) then later (lane_time e p) (arrival_in late volume p a mem) else lane_time e p)
      by p true true i j = let l = ltb-true p (8 * h) i in let q = eqb-true (p / 8) h j in absurd (omega arith)
      by p true false i j = let l = ltb-true p (8 * h) i in rw (lt-ltb p (8 * (h + 1)) (omega arith))
      by p false true i j = let q = eqb-true (p / 8) h j in rw (lt-ltb p (8 * (h + 1)) (omega arith))
      by p false false i j = let l = ltb-false p (8 * h) i in let n = eqb-false (p / 8) h j in rw (le-ltb p (8 * (h + 1)) (beyond p l n))

-- The data of one predecessor ---------------------------------------------------------------------------------------

-- The n replicas of the line at a from replica c on, newest first.
unfoldable pub row_from : Bool → ℕ → ℕ → ℕ → List ℕ → List Outcome
row_from late a c zero mem = []
row_from late a c (suc n) mem = row_from late a (suc c) n mem ++ row_outcome late a c mem ∷ []

row_from_lem : (late : Bool) (a c n : ℕ) (mem : List ℕ) → row_from late a c n mem ++ row_outcomes late a c mem ≡ row_outcomes late a (c + n) mem
unfolding row_from row_outcomes
row_from_lem late a c zero mem = rw (add-zero c)
row_from_lem late a c (suc n) mem =
    append_assoc (row_from late a (suc c) n mem) (row_outcome late a c mem ∷ []) (row_outcomes late a c mem)
    ∙ row_from_lem late a (suc c) n mem ∙ (let e : suc c + n ≡ c + suc n = omega arith in rw e)

module _ (late : Bool) (a : ℕ) (mem : List ℕ) where
  pub row_whole : (n : ℕ) → row_from late a 0 n mem ≡ row_outcomes late a n mem
  unfolding row_outcomes
  row_whole n = sym (append-nil (row_from late a 0 n mem)) ∙ row_from_lem late a 0 n mem ∙ (let e : 0 + n ≡ n = omega arith in rw e)

  -- None yet; the replica before.
  pub row_last : (c n m : ℕ) → m ≡ n + 1 → row_from late a c m mem ≡ row_from late a (c + 1) n mem ++ row_outcome late a c mem ∷ []
  unfolding row_from
  row_last c n m e = rw (e, add-one n, add-one c)

-- When the data of an outcome is on p.
abbrev pub sent_by : ℕ → List ℕ → ℕ → Outcome → Time
sent_by volume mem p d = after (volume * delay (job_in mem) d.processor p) d.time

-- Replicas c and on of the line at a, w in all, were offered to the processors of half h, each with an own one its own.
pub record Offered (lim : Limits) (h volume a c w : ℕ) (mem : List ℕ) (low high first last : List Float) : Type 0 where
  pub low_of : HalfTable lim h (λ p. least (map (sent_by volume mem p) (row_from false a c (w - c) mem))) mem low
  pub high_of : HalfTable lim h (λ p. largest (map (sent_by volume mem p) (row_from true a c (w - c) mem))) mem high
  pub first_of : HalfTable lim h (λ p. own_time (tick 0) p (row_from false a c (w - c) mem)) mem first
  pub last_of : HalfTable lim h (λ p. own_time never p (row_from true a c (w - c) mem)) mem last

module _ {lim : Limits} {capacity : ℕ} {mem : List ℕ} (held : JobHeld lim capacity mem) (h volume a : ℕ) where
  pub offered_none : (w : ℕ) {x y : Float} → Holds (lane_most lim) x (tick 0) → Holds (lane_most lim) y never → Offered lim h volume a w w mem
      (replicate 8 y) (replicate 8 x) (replicate 9 x) (replicate 9 y)
  unfolding row_from least largest own_time
  offered_none w z n =
      let none : w - w ≡ 0 = omega arith in
      record {
        low_of = half_same (λ p o. rw none) (half_all 8 _ (omega arith) n);
        high_of = half_same (λ p o. rw none) (half_all 8 _ (omega arith) z);
        first_of = half_same (λ p o. rw none) (half_all 9 _ (omega arith) z);
        last_of = half_same (λ p o. rw none) (half_all 9 _ (omega arith) n);
      }

  module _ (small : (lim.volume ≤ 2 ^ 53) × (lim.delay ≤ 2 ^ 53)) (two : h < 2) {delays : List ℕ} (table : DelayTable lim delays mem) (v : volume ≤ lim.volume)
      {q : ℕ} (o : q < nth mem 1) where
    -- What q sends at x is offered to lane i.
    sent_to : {x : Float} {t : Time} → Holds lim.tick x t → (i : ℕ) → OfHalf h mem i
        → Holds (lane_most lim) (sent x volume (nth delays (delay_at q h + i))) (after (volume * delay (job_in mem) q (8 * h + i)) t)
    sent_to {x} {t} k i l =
        let p = 8 * h + i in
        let e : delay_at q h + i ≡ q * lanes_most + p = omega (arith, few held) in
        let d = table.most (q * lanes_most + p) (omega (arith, few held, l.1)) in
        let m = message_most_lem lim volume (nth delays (q * lanes_most + p)) v d in
        let g = fine held in
        let z = sent_holds k volume (nth delays (q * lanes_most + p)) (omega (arith, small)) (omega (arith, small, d)) (omega (arith, m, g)) in
        rw (e, ← table.cell q p o l.1) (held_more (omega (arith, m)) z.0, z.1)

    wide : {x : Float} {t : Time} → Holds lim.tick x t → Holds (lane_most lim) x t
    wide k = (held_more (omega arith) k.0, k.1)

    pub offered_next : {c w : ℕ} {low high first last low' high' : List Float} → Offered lim h volume a (c + 1) w mem low high first last → c < w
        → q ≡ nth mem (processor_at a c) → {x y : Float} → Holds lim.tick x (time_in (nth mem (time_at false a c))) → Holds lim.tick y (time_in (nth mem (time_at true a c)))
        → low' ≡ lanes (λ p z. lesser (sent x volume (nth delays (delay_at q h + p))) z) 8 low
        → high' ≡ lanes (λ p z. greater z (sent y volume (nth delays (delay_at q h + p)))) 8 high
        → Offered lim h volume a c w mem low' high' (set first (lane_in q h) x) (set last (lane_in q h) y)
    offered_next {c} {w} s l on k m i j =
        let n = w - (c + 1) in
        let more : w - c ≡ n + 1 = omega arith in
        let early = row_last false a mem c n (w - c) more in
        let late = row_last true a mem c n (w - c) more in
        let first : Time = time_in (nth mem (time_at false a c)) in
        let last : Time = time_in (nth mem (time_at true a c)) in
        record {
          low_of = half_same {f = λ p. sooner (least (map (sent_by volume mem p) (row_from false a (c + 1) n mem))) (after (volume * delay (job_in mem) q p) first)}
              (λ p b. rw (early, ← on) (sym (least_last (sent_by volume mem p) (row_from false a (c + 1) n mem) _)))
              (half_lanes _ s.low_of (λ p b. lesser_holds (fine held) (sent_to k p b) (s.low_of.held p b, s.low_of.time p b)) i);
          high_of = half_same {f = λ p. later (largest (map (sent_by volume mem p) (row_from true a (c + 1) n mem))) (after (volume * delay (job_in mem) q p) last)}
              (λ p b. rw (late, ← on) (sym (largest_last (sent_by volume mem p) (row_from true a (c + 1) n mem) _)))
              (half_lanes _ s.high_of (λ p b. greater_holds (fine held) (s.high_of.held p b, s.high_of.time p b) (sent_to m p b)) j);
          first_of = half_same {f = λ p. if eqb q p then first else own_time (tick 0) p (row_from false a (c + 1) n mem)}
              (λ p b. rw (early, ← on) (sym (own_last (tick 0) p (row_from false a (c + 1) n mem) _))) (half_set q _ s.first_of (wide k));
          last_of = half_same {f = λ p. if eqb q p then last else own_time never p (row_from true a (c + 1) n mem)}
              (λ p b. rw (late, ← on) (sym (own_last never p (row_from true a (c + 1) n mem) _))) (half_set q _ s.last_of (wide m));
        }

  -- All were offered: what is left is what the equations name.
  pub offered_all : {low high first last low' high' : List Float} → Offered lim h volume a 0 (nth mem 3 + 1) mem low high first last
      → low' ≡ lanes (λ p z. greater z (lane first p)) 8 low → high' ≡ lanes (λ p z. lesser (lane last p) z) 8 high
      → HalfTable lim h (λ p. arrival_in false volume p a mem) mem low' × HalfTable lim h (λ p. arrival_in true volume p a mem) mem high'
  offered_all s i j =
      let w = nth mem 3 + 1 in
      let whole : (late : Bool) → row_from late a 0 (w - 0) mem ≡ row_outcomes late a w mem = λ late. rw (sub-zero w) (row_whole late a mem w) in (
        half_same (λ p o. rw (whole false) (sym (arrival_least (job_in mem) (row_outcomes false a w mem) p (edge_from volume a mem) (row_all false mem (nth mem a) a w refl) (own p o))))
            (half_raise held s.low_of s.first_of i),
        half_same (λ p o. rw (whole true) (sym (arrival_largest (job_in mem) (row_outcomes true a w mem) p (edge_from volume a mem) (row_all true mem (nth mem a) a w refl) (own p o))))
            (half_lower held s.high_of s.last_of j),
      )
    where
      own : (p : ℕ) → p < nth mem 1 → delay (job_in mem) p p ≡ 0
      own p o = held.facts.delay_self p (rw (processors_in mem) o)

-- All data of a task ------------------------------------------------------------------------------------------------

-- e holds the later of the times z and of the largest arrivals of the edges that are passed at cell k of a run from a on.
abbrev pub Gathered : Limits → ℕ → Bool → (ℕ → Time) → List ℕ → ℕ → List ℕ → ℕ → List Float → Type 0
Gathered lim capacity late z mem a cells k e = TimeTable lim (λ p. later (z p) (gathered (arrival_of capacity late p mem) a cells k)) mem e

module _ {lim : Limits} (capacity : ℕ) (late : Bool) {mem : List ℕ} (z : ℕ → Time) where
  pub gathered_none : {e : List Float} → TimeTable lim z mem e → (a : ℕ) (cells : List ℕ) → Gathered lim capacity late z mem a cells a e
  gathered_none t a cells = table_same (λ p o. sym (later_comm (z p) (tick 0) ∙ later_zero (z p)) ∙ ap (later (z p)) (gather_none (arrival_of capacity late p mem) a cells)) t

  module _ {a n k : ℕ} {cells : List ℕ} {e : List Float} (t : ℕ) (w : Passed a n cells (incoming (job_in mem) t) k) (g : Gathered lim capacity late z mem a cells k e) where
    more : (p : ℕ) → later (later (z p) (gathered (arrival_of capacity late p mem) a cells k)) (arrival_of capacity late p mem (edge_in (nth cells k)))
        ≡ later (z p) (gathered (arrival_of capacity late p mem) a cells (k + 1))
    more p =
        later_assoc (z p) (gathered (arrival_of capacity late p mem) a cells k) (arrival_of capacity late p mem (edge_in (nth cells k)))
        ∙ ap (later (z p)) (gather_next (arrival_of capacity late p mem) w (k + 1) refl)

    -- The data of one edge more.
    pub gathered_next : {f : List Float} → RaisedBy lim capacity late (edge_in (nth cells k)) mem e f → Gathered lim capacity late z mem a cells (k + 1) f
    gathered_next r = table_same (λ p o. rw (g.time p o) (more p)) r

    -- An edge for whose data no processor waits.
    pub gathered_same : ((p : ℕ) → p < nth mem 1 → later (z p) (arrival_of capacity late p mem (edge_in (nth cells k))) ≡ z p) → Gathered lim capacity late z mem a cells (k + 1) e
    gathered_same h = table_same (λ p o. by p (h p o) ∙ more p) g
      where
        by : (p : ℕ) → later (z p) (arrival_of capacity late p mem (edge_in (nth cells k))) ≡ z p
            → later (z p) (gathered (arrival_of capacity late p mem) a cells k)
            ≡ later (later (z p) (gathered (arrival_of capacity late p mem) a cells k)) (arrival_of capacity late p mem (edge_in (nth cells k)))
        by p i =
            let x = gathered (arrival_of capacity late p mem) a cells k in
            let y = arrival_of capacity late p mem (edge_in (nth cells k)) in
            ap (λ (u : Time). later u x) (sym i) ∙ later_assoc (z p) y x ∙ ap (later (z p)) (later_comm y x) ∙ sym (later_assoc (z p) x y)

    pub gathered_done : {i : ℕ} → LinesHeld lim capacity i mem → PredecessorsPlaced capacity t mem → n ≤ k
        → TimeTable lim (λ p. later (z p) (data_in capacity late t p mem)) mem e
    gathered_done s f l = table_same (λ p o. ap (later (z p)) (gather_done (arrival_of capacity late p mem) w l ∙ data_walked s t f late p)) g

-- An edge whose ends are soon enough: no processor waits for its data.
module _ {lim : Limits} {capacity k : ℕ} {mem : List ℕ} (s : LinesHeld lim capacity k mem) (t : ℕ) {z : Bool → ℕ → Time} {ends : List Float} (y : Supplied lim capacity t z mem ends)
    {most : ℕ} (d : NoDelayOver most mem) (e : Edge) (i : In e (incoming (job_in mem) t)) (p : ℕ) (o : p < nth mem 1) where
  abbrev sender : ℕ
  sender = row_of capacity e.from mem

  abbrev row : Bool → List Outcome
  row late = row_outcomes late sender (nth mem 3 + 1) mem

  own : delay (job_in mem) p p ≡ 0
  own = s.job.facts.delay_self p (rw (processors_in mem) o)

  behind : (late : Bool) (b : Outcome) → In b (row late) → b.processor ≡ p → NoLater b.time (z late p)
  behind late b j q =
      let (c, l, g) = in_row late mem sender (nth mem 3 + 1) b j in
      let on : nth mem (processor_at sender c) ≡ p = sym (ap (λ (x : Outcome). x.processor) g) ∙ q in
      rw (ap (λ (x : Outcome). x.time) g, ← on) (y.behind late e c i l)

  far : (late : Bool) (b : Outcome) → In b (row late) → message (job_in mem) (edge_from e.volume sender mem) b.processor p ≤ e.volume * most
  far late b j =
      let (c, l, g) = in_row late mem sender (nth mem 3 + 1) b j in
      let m = (feeds t s y.placed i).row.processor_of c l in
      mul-le-mul {n₁ = e.volume} {m₁ = delay (job_in mem) b.processor p} {n₂ = e.volume} {m₂ = most} (omega arith)
      (d b.processor p (rw (ap (λ (x : Outcome). x.processor) g) m) o)

  waits : (late : Bool) → NoLater (after (e.volume * most) (choice_of late (times (row late)))) (z late p) → later (z late p) (arrival_of capacity late p mem e) ≡ z late p
  waits true = largest_waits_not (job_in mem) (row true) p (edge_from e.volume sender mem) (row_all true mem (nth mem sender) sender (nth mem 3 + 1) refl) own
      (z true p) (e.volume * most) (behind true) (far true)
  waits false = least_waits_not (job_in mem) (row false) p (edge_from e.volume sender mem) (row_all false mem (nth mem sender) sender (nth mem 3 + 1) refl) own
      (z false p) (e.volume * most) (behind false) (far false)

  pub waits_not : (late : Bool) (x : Time) → NoLater (after (e.volume * most) (time_of (lane ends (end_at late e.from)))) x → NoLater x (z late p)
      → later (z late p) (arrival_of capacity late p mem e) ≡ z late p
  waits_not late x h g = waits late (rw (← (y.end late e i).1) (no_later_then (after (e.volume * most) (time_of (lane ends (end_at late e.from)))) x (z late p) h g))

-- The least of the times at which processors are ready is no later than each.
pub ready_least : {lim : Limits} {capacity : ℕ} {mem : List ℕ} {e : List Float} {x : Float} → JobHeld lim capacity mem → LanesHeld lim mem e → x ≡ least_lane (min (nth mem 1) 16) e
    → Held (lane_most lim) x × ((p : ℕ) → p < nth mem 1 → NoLater (time_of x) (lane_time e p))
ready_least {mem = mem} {e} {x} h t i =
    let m : min (nth mem 1) 16 ≡ nth mem 1 = omega (arith, few h) in
    rw (i, m) (least_holds (fine h) (nth mem 1) e t.held)

-- What is asked of an edge that enters t, and of its ends.
pub edge_ends : {lim : Limits} {capacity k : ℕ} {mem : List ℕ} {z : Bool → ℕ → Time} {ends : List Float} {e : Edge} → LinesHeld lim capacity k mem → (t : ℕ)
    → Supplied lim capacity t z mem ends → In e (incoming (job_in mem) t) → EdgeEnds lim e ends
edge_ends {mem = mem} {e = e} s t y i =
    let f = feeds t s y.placed i in
    let u = s.job.suited.task_fits in
    let w = sizes s.job in
    record { from_most = omega (arith, f.from_below, w.tasks_most, u); volume_most = f.volume_most; within = omega (arith, f.from_below, y.size); held = λ late. (y.end late e i).0 }

-- Times at which processors are ready, in lanes -----------------------------------------------------------------------

-- Ticks in lanes.
pub table_ticks : {lim : Limits} {capacity : ℕ} {mem : List ℕ} {e : List Float} (ticks : List ℕ) → JobHeld lim capacity mem → last_short ≤ lane_most lim → ShortTicks mem ticks
    → e ≡ lanes (λ p z. whole (nth ticks p)) 16 (replicate 16 (whole 0)) → TimeTable lim (λ p. tick (nth ticks p)) mem e
table_ticks ticks h l s =
    table_lanes (λ p z. whole (nth ticks p)) (few h) (table_all (whole 0) (few h) (whole_holds 0 _ (fine h) (omega arith)))
    (λ p o. whole_holds (nth ticks p) _ (fine h) (omega (arith, l, s.1 p o)))

-- What is known of the predecessors, by the lanes.
pub supplied_lanes : {lim : Limits} {capacity k : ℕ} {mem : List ℕ} {z : Bool → ℕ → Time} {ends e f : List Float} → LinesHeld lim capacity k mem → (t : ℕ)
    → Supplied lim capacity t z mem ends → TimeTable lim (z false) mem e → TimeTable lim (z true) mem f → Supplied lim capacity t (lane_times e f) mem ends
supplied_lanes {capacity = capacity} {mem = mem} {z} {e = e} {f} s t y u v =
    record { placed = y.placed; size = y.size; end = y.end; behind = λ late a c i l. rw (by late _ ((feeds t s y.placed i).row.processor_of c l)) (y.behind late a c i l) }
  where
    by : (late : Bool) (p : ℕ) → p < nth mem 1 → lane_times e f late p ≡ z late p
    by true p o = v.time p o
    by false p o = u.time p o

-- Starts that come leave a run short.
pub starts_held : {lim : Limits} {capacity k : ℕ} (late : Bool) {mem : List ℕ} (ticks : List ℕ) {d e : List Float} → LinesHeld lim capacity k mem
    → (t : ℕ) → BothSupplied capacity t mem → ShortTicks mem ticks
    → TimeTable lim (λ p. tick (nth ticks p)) mem d → Raised lim capacity late t mem d e
    → TicksHeld lim mem e × ((p : ℕ) → p < nth mem 1 → lane_time e p ≡ later (tick (nth ticks p)) (data_in capacity late t p mem))
starts_held {capacity = capacity} late {mem} ticks {d} {e} s t b h u r =
    let same : (p : ℕ) → p < nth mem 1 → lane_time e p ≡ later (tick (nth ticks p)) (data_in capacity late t p mem) = λ p o. r.time p o ∙ rw (u.time p o) in (
      λ p o. (
        r.held p o,
        rw (same p o) (comes_later (nth ticks p, refl, omega (arith, h.1 p o)) (data_comes s t p last_short (λ a i. (b a i).0) o (omega arith) by late)),
      ),
      same,
    )
  where
    by : (late : Bool) (a : Edge) (c : ℕ) → In a (incoming (job_in mem) t) → c < nth mem 3 + 1 → nth mem (time_at late (row_of capacity a.from mem) c) ≤ last_short
    by true a c i l = ((b a i).1 c l).1
    by false a c i l = ((b a i).1 c l).0
