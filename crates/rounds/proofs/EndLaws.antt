-- The ends of lines: first early and last late finishes by task; what is known of a task's predecessors.
use Rattle.lists.proofs.Prelude.{◌≡◌, refl, ⊎_elim, List, Bool, true, false, ℕ, suc, ◌+◌, ◌*◌, ◌-◌, ◌<◌, ◌≤◌, arith, add-one, length, nth, In, Edge, incoming, Time, ready, Limits}
use lib.Ieee.{Float}
use Rattle.definitions.specs.Shelf.{NoLater, Settled}
use Rattle.heads.specs.Layout.{job_size, line_at, row_at, processor_at, time_at}
use Rattle.jobs.specs.Held.{job_in, JobHeld}
use Rattle.ticks.specs.Cells.{time_in}
use Rattle.ticks.specs.Floats.{lane}
use Rattle.plans.specs.Lines.{row_of, placed_in, LinesHeld}
use Rattle.lists.proofs.Kept.{Same, same_part}
use Rattle.lists.proofs.Counting.{last_or_before}
use Rattle.plans.proofs.Lines.{outcomes_same}
use Rattle.rounds.specs.Arrivals.{NoDelayOver, end_at, EndOf, Ended, EndsPut, Supplied, clock_times}
use Rattle.rounds.specs.Clocks.{earlies_in, lates_in, SettledTo, ClocksHeld}
use Rattle.ticks.specs.declared.clocks.Clocks.{Clocks}
use Rattle.jobs.proofs.Held.{processors_in, sizes, job_same}
use Rattle.rounds.proofs.Tables.{from_below}
use Rattle.rounds.proofs.Placed.{PredecessorsPlacedBy, row_outcome, row_in, placed_in_lem, line_in_lem}

-- No line yet.
pub ended_none : {lim : Limits} {capacity : ℕ} {mem : List ℕ} {ends : List Float} → 2 * nth mem 0 ≤ length ends → Ended lim capacity 0 mem ends
ended_none h = record { size = h; end = λ late i l. absurd (omega arith) }

-- The lines are as they were.
pub ended_same : {lim : Limits} {capacity k : ℕ} {d e : List ℕ} {ends : List Float} → Ended lim capacity k d ends → nth e 0 ≡ nth d 0 → nth e 3 ≡ nth d 3 → nth d 3 + 1 ≤ 8
    → Same (row_at capacity 0) (row_at capacity k) d e → Ended lim capacity k e ends
ended_same {capacity} {d = d} {e} x v m w r =
    record {
      size = rw v x.size;
      end = λ late i l.
          let row = row_at capacity i in
          rw (m, r.cell row (omega arith) (omega arith), outcomes_same d e late row (nth d 3 + 1) (same_part row (processor_at row (nth d 3 + 1)) r (omega arith) (omega arith))) (x.end late i l);
    }

-- One line more, of task t, which no line before it has.
pub ended_next : {lim : Limits} {capacity k t : ℕ} {mem : List ℕ} {ends next : List Float} → Ended lim capacity k mem ends → nth mem (row_at capacity k) ≡ t
    → ((i : ℕ) → i < k → nth mem (row_at capacity i) ≡ t → ⊥) → EndsPut lim (row_at capacity k) t mem ends next → Ended lim capacity (suc k) mem next
ended_next {capacity} {k} {mem = mem} x here none p =
    record {
      size = rw p.size x.size;
      end = λ late i l.
          ⊎_elim
          (λ (q : i ≡ k). rw (q, here) (p.end late))
          (λ q. rw (p.other (nth mem (row_at capacity i)) (none i q) late) (x.end late i q))
          (last_or_before k i l);
    }

-- One line more of those that stand.
pub ended_line : {lim : Limits} {capacity n k : ℕ} {mem : List ℕ} {ends next : List Float} → LinesHeld lim capacity n mem → k < n → Ended lim capacity k mem ends
    → EndsPut lim (row_at capacity k) (nth mem (row_at capacity k)) mem ends next → Ended lim capacity (k + 1) mem next
ended_line {k = k} s l x p =
    rw (add-one k) (ended_next x refl (λ i o q. let e = rw q at (s.line_of i (omega arith)) in omega (arith, e, s.line_of k l)) p)

module _ {lim : Limits} {capacity n k : ℕ} {mem : List ℕ} (s : LinesHeld lim capacity n mem) (l : k ≤ n) (t : ℕ) (f : PredecessorsPlacedBy capacity k t mem) where
  -- The ends of a predecessor are in the table.
  ends_of : {ends : List Float} → Ended lim capacity k mem ends → (late : Bool) (a : Edge) → In a (incoming (job_in mem) t)
      → EndOf lim late (row_of capacity a.from mem) mem (lane ends (end_at late a.from))
  ends_of x late a i =
      let (some, most) = f a i in
      let line = nth mem (line_at capacity + a.from) - 1 in
      rw (line_in_lem s a.from line (from_below s.job t a i) (omega arith)).1 at (x.end late line (omega arith))

  -- A processor is ready no sooner than its own replica of a predecessor has finished.
  pub settled_behind : (late : Bool) → Settled (job_in mem) (placed_in capacity late (nth mem 3 + 1) k mem) → (a : Edge) (c : ℕ) → In a (incoming (job_in mem) t) → c < nth mem 3 + 1
      → NoLater (time_in (nth mem (time_at late (row_of capacity a.from mem) c)))
      (ready (job_in mem) (nth mem (processor_at (row_of capacity a.from mem) c)) (placed_in capacity late (nth mem 3 + 1) k mem))
  settled_behind late z a c i o =
      let (some, most) = f a i in
      let row = row_of capacity a.from mem in
      let line = nth mem (line_at capacity + a.from) - 1 in
      z (row_outcome late row c mem) (placed_in_lem late mem capacity (nth mem 3 + 1) k line _ (omega arith) (row_in late mem row (nth mem 3 + 1) c o))

  -- What is asked of the predecessors of t.
  pub supplied : {ends : List Float} (z : Bool → ℕ → Time) → Ended lim capacity k mem ends
      → ((late : Bool) (a : Edge) (c : ℕ) → In a (incoming (job_in mem) t) → c < nth mem 3 + 1
      → NoLater (time_in (nth mem (time_at late (row_of capacity a.from mem) c))) (z late (nth mem (processor_at (row_of capacity a.from mem) c))))
      → Supplied lim capacity t z mem ends
  supplied z e b = record { placed = λ a i. (f a i).0; size = e.size; end = ends_of e; behind = b }

  -- The same of the clocks after the first k lines.
  pub supplied_clocks : {ends : List Float} {clocks : Clocks} → Ended lim capacity k mem ends → SettledTo capacity k mem
      → ClocksHeld clocks (job_in mem) (earlies_in capacity k mem) (lates_in capacity k mem) → Supplied lim capacity t (clock_times clocks) mem ends
  supplied_clocks {clocks = clocks} e z h =
      supplied (clock_times clocks) e (λ late a c i o. let (some, most) = f a i in
      rw (at late _ ((s.row (nth mem (line_at capacity + a.from) - 1) (omega arith)).processor_of c o)) (settled_behind late (z late) a c i o))
    where
      at : (late : Bool) (p : ℕ) → p < nth mem 1 → clock_times clocks late p ≡ ready (job_in mem) p (placed_in capacity late (nth mem 3 + 1) k mem)
      at true p o = h.late_ready p (rw (processors_in mem) o)
      at false p o = h.early_ready p (rw (processors_in mem) o)

-- No delay passes n in a memory with the same job.
pub no_delay_kept : {lim : Limits} {capacity n : ℕ} {d e : List ℕ} → JobHeld lim capacity d → Same 0 (job_size capacity) d e → NoDelayOver n d → NoDelayOver n e
no_delay_kept {d = d} {e} h j x q p a b =
    let m : nth e 1 ≡ nth d 1 = j.cell 1 (omega arith) (omega arith) in
    rw (job_same (sizes h) j) (x q p (rw m at a) (rw m at b))
