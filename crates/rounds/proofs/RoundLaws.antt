-- The replay of all lines, line after line.
use Rattle.std.specs.Array.{AllOfLen}
use Rattle.lists.proofs.Prelude.{◌≡◌, refl, ap, ◌∙◌, sym, inr, List, [], ◌++◌, false, ℕ, suc, ◌+◌, ◌<◌, ◌≤◌, arith, add-one, nth, Stop, ready, walk, placements, replay, Ordered, Limits}
use Rattle.definitions.proofs.Ready.{first_ready_lem}
use Rattle.heads.specs.Layout.{replicas_most, job_size, row_at, largest_delay_at, processor_at, lanes_most}
use Rattle.jobs.specs.Held.{job_in, JobHeld}
use Rattle.plans.specs.Lines.{row_outcomes, placed_in, lines_in, LinesHeld}
use Rattle.rounds.specs.Arrivals.{DelaysHeld}
use Rattle.plans.specs.Loading.{plan_in}
use Rattle.rounds.specs.declared.times.Delays.{Delays}
use Rattle.rounds.specs.Replaying.{StopsIn, ran_in, Running, PredecessorsBefore, Retimed, placements_in, walked, LineRun, RoundRun}
use Rattle.lists.proofs.Counting.{below_same}
use Rattle.lists.proofs.Kept.{Same, same_before, kept_wider}
use Rattle.jobs.proofs.Held.{sizes}
use Rattle.rounds.proofs.TimeTables.{delays_kept}
use Rattle.rounds.proofs.EndLaws.{no_delay_kept}
use Rattle.rounds.proofs.RunLaws.{retimed_none, retimed_then, cell_retimed, job_retimed, predecessors_retimed, walked_append}
use Rattle.plans.proofs.Lines.{processors_below, line_with}
use Rattle.rounds.proofs.Outcomes.{placements_more}
use Rattle.rounds.proofs.PlanLines.{line_predecessors, line_rises}

-- Line after line -----------------------------------------------------------------------------------------------------

lines_more : (capacity : ℕ) (k w : ℕ) (mem : List ℕ) → placements (job_in mem) (lines_in capacity w k mem) ++ placements_in capacity k w mem ≡ placements (job_in mem) (lines_in capacity w (suc k) mem)
unfolding lines_in placements_in
lines_more capacity k w mem = sym (placements_more (job_in mem) (lines_in capacity w k mem) (line_with mem w (row_at capacity k)))

-- The replicas of a line are as they were.
placements_retimed : {lim : Limits} {capacity a n : ℕ} {d e : List ℕ} → Retimed capacity a n d e → JobHeld lim capacity d → (k c : ℕ)
    → c ≤ replicas_most → placements_in capacity k c e ≡ placements_in capacity k c d
unfolding placements_in
placements_retimed {capacity} {d = d} {e} z h k c g =
    let on : List ℕ → ℕ → ℕ = λ x i. nth x (processor_at (row_at capacity k) i) in
    rw (job_retimed z h, z.task k, processors_below e (row_at capacity k) c, processors_below d (row_at capacity k) c, below_same (on e) (on d) {n = c} refl (λ i l. z.processor k i (omega arith)))

-- k lines have run, from a memory d.
pub record RoundRuns (lim : Limits) (capacity k : ℕ) (stops cells d e : List ℕ) : Type 0 where
  pub running : Running lim capacity k 0 cells e
  pub retimed : Retimed capacity 0 (nth d 0) d e
  pub outcomes : (ss : List Stop) → StopsIn ss stops → placed_in capacity false (nth e 3 + 1) k e ≡ walked (job_in d) ss [] (placements (job_in d) (lines_in capacity (nth d 3 + 1) k d))

pub round_first : {lim : Limits} {capacity : ℕ} (stops : List ℕ) {times mem : List ℕ} → AllOfLen (λ x. x ≡ 0) times lanes_most → LinesHeld lim capacity (nth mem 0) mem
    → RoundRuns lim capacity 0 stops times mem mem
unfolding ready ran_in row_outcomes placed_in lines_in placements walked walk
round_first stops {times} {mem} z s =
    let w = sizes s.job in
    record {
      running = record {
        standing = s;
        size = z.long;
        ready_of = λ p h. rw (z.at p 0 (omega arith), first_ready_lem (job_in mem) p);
        ready_small = λ p h. rw (z.at p 0 (omega arith)) (inr (omega arith));
        within = λ d i. absurd i;
        settled = λ d i. absurd i;
      };
      retimed = retimed_none;
      outcomes = λ ss h. refl;
    }

module _ {lim : Limits} {capacity : ℕ} (k : ℕ) {stops cells d e : List ℕ} (l : RoundRuns lim capacity k stops cells d e) (s : LinesHeld lim capacity (nth d 0) d)
    (o : Ordered (job_in d) [] (plan_in capacity d).lines) where
  -- What the next line asks for.
  pub round_asks : {delays : Delays} → DelaysHeld lim delays d → k < nth d 0 → DelaysHeld lim delays e × (k < nth e 0) × PredecessorsBefore capacity k e
  unfolding plan_in
  round_asks delays h =
      let same : Same 0 (job_size capacity) d e = same_before 0 (job_size capacity) l.retimed.outside (omega arith) in (
        record { table = delays_kept s.job same delays.table; over = no_delay_kept s.job same delays.over; most = delays.most },
        rw (cell_retimed l.retimed 0 (omega arith)) h,
        predecessors_retimed l.retimed s.job k (line_predecessors s o k h),
      )

  pub round_next : {after f : List ℕ} → k < nth d 0 → Running lim capacity (suc k) 0 after f → LineRun capacity k stops e f → RoundRuns lim capacity (k + 1) stops after d f
  round_next {after} {f} h r q =
      let w = sizes s.job in
      let j : job_in e ≡ job_in d = job_retimed l.retimed s.job in
      let three : nth e 3 ≡ nth d 3 = cell_retimed l.retimed 3 (omega arith) in
      rw (add-one k)
      record {
        running = r;
        retimed = retimed_then l.retimed q.retimed (omega arith);
        outcomes = λ ss g.
            q.outcomes ss g
            ∙ rw (j, l.outcomes ss g, three, placements_retimed l.retimed s.job k (nth d 3 + 1) (omega arith))
            (sym (walked_append (job_in d) ss [] (placements (job_in d) (lines_in capacity (nth d 3 + 1) k d)) (placements_in capacity k (nth d 3 + 1) d)) ∙ ap (walked (job_in d) ss [])
            (lines_more capacity k (nth d 3 + 1) d));
      }

  pub round_done : k ≡ nth d 0 → RoundRun lim capacity stops d e
  unfolding plan_in walked replay
  round_done q =
      let w = sizes s.job in
      let zero-cell : nth e 0 ≡ nth d 0 = cell_retimed l.retimed 0 (omega arith) in
      let three : nth e 3 ≡ nth d 3 = cell_retimed l.retimed 3 (omega arith) in
      record {
        outside = kept_wider (row_at capacity 0) (largest_delay_at capacity) l.retimed.outside (omega arith) (omega arith);
        standing = l.running.standing;
        rising = λ i c h g.
            let u : i < nth d 0 = rw zero-cell at h in
            let v : c < nth d 3 = rw three at g in
            rw (l.retimed.processor i c (omega arith), l.retimed.processor i (c + 1) (omega arith)) (line_rises s o i u c v);
        outcomes = λ ss g. rw (zero-cell, ← q) (l.outcomes ss g);
      }
