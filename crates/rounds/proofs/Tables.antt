-- What the tables beside the lines hold after a change elsewhere, table by table.
use Rattle.lists.proofs.Prelude.{◌≡◌, ap, List, map, Bool, true, false, ℕ, ◌+◌, ◌*◌, ◌<◌, ◌≤◌, arith, nth, In, Edge, incoming, Limits, Time, after, least, largest, Outcome}
use Rattle.definitions.proofs.Lists.{map_same}
use Rattle.definitions.proofs.Tasks.{in_incoming}
use Rattle.heads.specs.Layout.{job_size, line_at, level_at, row_at, largest_delay_at}
use Rattle.jobs.specs.Held.{job_in, JobHeld}
use Rattle.plans.specs.Lines.{row_end, row_of, row_outcomes, placed_in}
use Rattle.rounds.specs.Schedule.{top_in, LevelsFilled, LargestDelaysFilled}
use Rattle.rounds.specs.Clocks.{earlies_in, lates_in, ClocksHeld}
use Rattle.ticks.specs.declared.clocks.Clocks.{Clocks}
use Rattle.lists.specs.Kept.{KeptOutside}
use Rattle.lists.proofs.Kept.{Same, same_part}
use Rattle.jobs.proofs.Held.{tasks_in_lem, sizes, job_kept}
use Rattle.plans.proofs.Lines.{outcomes_same, placed_same}

-- An edge that enters a task comes from a task of the job.
pub from_below : {lim : Limits} {capacity : ℕ} {mem : List ℕ} → JobHeld lim capacity mem → (u : ℕ) (a : Edge) → In a (incoming (job_in mem) u) → a.from < nth mem 0
from_below {mem = mem} h u a i = rw (tasks_in_lem mem) at (h.facts.from_task a (in_incoming (job_in mem) u a i).0)

-- The job is as it was.
module _ {lim : Limits} {capacity low high : ℕ} {d e : List ℕ} (h : JobHeld lim capacity d) (c : KeptOutside low high d e) (a : job_size capacity ≤ low) where
  head_kept : (i : ℕ) → i < 4 → nth e i ≡ nth d i
  head_kept i l = let w = sizes h in c.before i (omega arith)

  pub levels_kept : line_at capacity ≤ low → LevelsFilled capacity d → LevelsFilled capacity e
  levels_kept b f t g =
      let w = sizes h in
      let l : t < nth d 0 = rw (head_kept 0 (omega arith)) at g in
      rw (job_kept h c a, c.before (level_at capacity + t) (omega arith)) (f t l)

  pub far_kept : high ≤ largest_delay_at capacity → LargestDelaysFilled capacity d → LargestDelaysFilled capacity e
  far_kept b f p g = rw (job_kept h c a, c.behind (largest_delay_at capacity + p) (omega arith)) (f p (rw (head_kept 1 (omega arith)) at g))

  -- The lines that are as they were: their outcomes, and the clocks after them.
  module _ (k : ℕ) (r : Same (row_at capacity 0) (row_at capacity k) d e) where
    pub placed_kept : (late : Bool) → placed_in capacity late (nth e 3 + 1) k e ≡ placed_in capacity late (nth d 3 + 1) k d
    placed_kept late = rw (head_kept 3 (omega arith)) (placed_same d e capacity late (nth d 3 + 1) k (omega (arith, (sizes h).row_fits)) r)

    pub clocks_kept : {clocks : Clocks} → ClocksHeld clocks (job_in d) (earlies_in capacity k d) (lates_in capacity k d) → ClocksHeld clocks (job_in e) (earlies_in capacity k e) (lates_in capacity k e)
    clocks_kept s = rw (job_kept h c a, placed_kept false, placed_kept true) s

  -- The top level of a task whose predecessors' lines are as they were.
  pub top_kept : high ≤ largest_delay_at capacity → (u : ℕ)
      → ((x : Edge) → In x (incoming (job_in d) u)
      → (nth e (line_at capacity + x.from) ≡ nth d (line_at capacity + x.from)) × Same (row_of capacity x.from d) (row_end (row_of capacity x.from d)) d e)
      → top_in capacity u e ≡ top_in capacity u d
  unfolding top_in
  top_kept b u f =
      let n = nth d 3 + 1 in
      let arrives : List ℕ → Edge → Outcome → Time = λ m x o. after (x.volume * nth m (largest_delay_at capacity + o.processor)) o.time in
      let sent : List ℕ → Edge → Time = λ m x. least (map (arrives m x) (row_outcomes false (row_of capacity x.from m) n m)) in
      rw (job_kept h c a, head_kept 3 (omega arith))
      (ap largest (map_same (sent e) (sent d) (incoming (job_in d) u) (λ x i.
      let (l, s) = f x i in
      let row = row_of capacity x.from d in
      rw (l, outcomes_same d e false row n (same_part row _ s (omega arith) (omega (arith, (sizes h).row_fits))))
      (ap least (map_same (arrives e x) (arrives d x) (row_outcomes false row n d) (λ o _. rw (c.behind (largest_delay_at capacity + o.processor) (omega arith))))))))
