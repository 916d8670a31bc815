-- Top levels in memory: when the data of a line is everywhere, and the largest of that over the edges that enter a task.
use Rattle.lists.proofs.Prelude.{◌≡◌, refl, ap, ◌∙◌, List, ℕ, ◌+◌, ◌*◌, ◌-◌, ◌<◌, ◌≤◌, min, arith, mul-le-mul, add-one, eq-eqb, ne_eqb, nth, Edge, incoming, Time, tick, least, tick_of, scale, Limits}
use Rattle.orders.proofs.Walk.{Passed}
use Rattle.definitions.proofs.Bounds.{largest_delay_most}
use Rattle.heads.specs.Layout.{line_at, row_at, largest_delay_at, processor_at, early_at, lanes_most}
use Rattle.jobs.specs.Held.{job_in, JobHeld}
use Rattle.ticks.specs.Cells.{never_cell, time_in}
use Rattle.jobs.specs.Tables.{message_most}
use Rattle.plans.specs.Lines.{row_outcomes, row_of, LinesHeld}
use Rattle.rounds.specs.Schedule.{top_in, LargestDelaysFilled}
use Rattle.rounds.specs.Planning.{Sends, spread_in, spread_most, top_most}
use Rattle.jobs.proofs.Held.{processors_in, sizes}
use Rattle.rounds.specs.Walks.{Feeds}
use Rattle.rounds.proofs.TimeLaws.{time_tick, sooner_cells, message_most_lem, gathered, gather_done}
use Rattle.rounds.proofs.Placed.{line_in_lem}

-- A line's data -----------------------------------------------------------------------------------------------------

pub spread_none : (capacity volume a : ℕ) (mem : List ℕ) → time_in never_cell ≡ spread_in capacity volume a 0 mem
unfolding spread_in row_outcomes least
spread_none capacity volume a mem = refl

module _ {lim : Limits} {capacity a volume : ℕ} {mem : List ℕ} (h : JobHeld lim capacity mem) (s : Sends lim capacity a volume mem) {c : ℕ} (l : c < nth mem 3 + 1) where
  pub sent_on : nth mem (processor_at a c) < lanes_most
  sent_on = omega (arith, s.row.processor_of c l, (sizes h).lanes_fit)

  -- What the message to the farthest processor takes.
  pub sent_little : volume * nth mem (largest_delay_at capacity + nth mem (processor_at a c)) ≤ message_most lim
  sent_little =
      let p = nth mem (processor_at a c) in
      let g = s.row.processor_of c l in
      let m : nth mem (largest_delay_at capacity + p) ≤ lim.delay = rw (s.far p g) (largest_delay_most lim (job_in mem) h.facts p (rw (processors_in mem) g)) in
      message_most_lem lim volume (nth mem (largest_delay_at capacity + p)) s.little m

  -- One replica more, whose data is everywhere at y.
  pub spread_more : {x y r : ℕ} → y ≡ nth mem (early_at a c) + volume * nth mem (largest_delay_at capacity + nth mem (processor_at a c)) → x ≤ never_cell
      → time_in x ≡ spread_in capacity volume a c mem → r ≡ min y x → (time_in r ≡ spread_in capacity volume a (c + 1) mem) × (r ≤ spread_most lim)
  unfolding spread_in row_outcomes least
  spread_more {x} {y} {r} e m f g =
      let t = s.ticks c l in
      let n = sent_little in
      let fits = h.tabled.cell_fits in (
        sooner_cells never_cell y x r (omega arith) m g
            ∙ rw (f, add-one c, time_tick y (λ q. omega arith), time_tick (nth mem (early_at a c)) (λ q. omega arith), e),
        omega arith,
      )

-- The edges that enter a task ---------------------------------------------------------------------------------------

-- When the data of an edge is everywhere.
abbrev pub spreads : ℕ → List ℕ → Edge → Time
spreads capacity mem e = spread_in capacity e.volume (row_of capacity e.from mem) (nth mem 3 + 1) mem

-- The line of a predecessor is one that the code may ask.
pub feeds_sends : {lim : Limits} {capacity k : ℕ} {mem : List ℕ} {e : Edge} → LinesHeld lim capacity k mem
    → ((i c : ℕ) → i < k → c < nth mem 3 + 1 → nth mem (early_at (row_at capacity i) c) ≤ lim.tick)
    → LargestDelaysFilled capacity mem → Feeds lim capacity e mem → Sends lim capacity (row_of capacity e.from mem) e.volume mem
feeds_sends {capacity} {k} {mem} {e} s t f d =
    let i = nth mem (line_at capacity + e.from) - 1 in
    let (l, _) = line_in_lem s e.from i d.from_below (omega (arith, d.line_some)) in
    record {
      row = d.row;
      within = omega (arith, d.line_some, d.line_most, s.job.size);
      narrow = (sizes s.job).losses_most;
      ticks = λ c h. t i c l h;
      little = d.volume_most;
      far = f;
    }

module _ {lim : Limits} {capacity : ℕ} {mem : List ℕ} (h : JobHeld lim capacity mem) where
  scale_most : nth mem 1 * (nth mem 1 - 1) ≤ lim.processors * lim.processors
  scale_most = let w = sizes h in mul-le-mul {n₁ = nth mem 1} {m₁ = nth mem 1 - 1} {n₂ = lim.processors} {m₂ = lim.processors} (omega arith) (omega arith)

  pub top_most_lem : (x : ℕ) → x ≤ spread_most lim → x * (nth mem 1 * (nth mem 1 - 1)) ≤ top_most lim
  top_most_lem x l = mul-le-mul {n₁ = x} {m₁ = nth mem 1 * (nth mem 1 - 1)} {n₂ = spread_most lim} {m₂ = lim.processors * lim.processors} l scale_most

-- All edges that enter t are passed, and x is the largest of their times.
module _ {lim : Limits} {capacity x k a b : ℕ} {mem links : List ℕ} (t : ℕ) (h : JobHeld lim capacity mem) (w : Passed a b links (incoming (job_in mem) t) k) (e : b ≤ k)
    (g : tick x ≡ gathered (spreads capacity mem) a links k) (l : x ≤ spread_most lim) where
  top_done : x ≡ tick_of (top_in capacity t mem)
  unfolding top_in spread_in
  top_done = ap tick_of (g ∙ gather_done (spreads capacity mem) w e)

  pub top_one : nth mem 1 ≡ 1 → x ≡ tick_of (top_in capacity t mem) * scale (job_in mem)
  unfolding job_in
  top_one q = rw (← top_done, eq-eqb (nth mem 1) 1 q) (omega arith)

  pub top_scaled : (nth mem 1 ≡ 1 → ⊥) → x * (nth mem 1 * (nth mem 1 - 1)) ≡ tick_of (top_in capacity t mem) * scale (job_in mem)
  unfolding job_in
  top_scaled q = rw (← top_done, ne_eqb (nth mem 1) 1 q)
