-- The longest answer of the replay: an R line for each task, and an L line.
use Rattle.lists.proofs.Prelude.{◌≡◌, refl, inl, inr, List, [], ◌∷◌, map, false, ℕ, ◌+◌, ◌*◌, ◌≤◌, arith, length, length-append, nth, below, In, keep, document01, width_from, width, Job, Time, tick, never, same, Outcome, of_task, first_finish, lowest, first_processor, replay_makespan, result_line, result_lines, end_line, replay_text, mul-le-mul, suc-mul, zero-mul, Limits}
use Rattle.definitions.proofs.Lists.{in_map, in_keep, in_below, length_count}
use Rattle.definitions.proofs.Decimal.{width_powers, width_monotone, length_decimal, length_none, length_numbers, length_line}
use Rattle.definitions.proofs.Tasks.{in_task}
use Rattle.heads.specs.Layout.{row_at}
use Rattle.jobs.specs.Held.{job_in}
use Rattle.plans.specs.Lines.{LinesHeld}
use Rattle.rounds.specs.Replaying.{outcomes_in}
use Rattle.rounds.specs.Texts.{result_bytes, end_bytes, replay_bytes}
use Rattle.jobs.proofs.Held.{tasks_in_lem, sizes}
use Rattle.rounds.proofs.Placed.{in_placed}
use Rattle.rounds.proofs.Outcomes.{row_on}

-- Lines ---------------------------------------------------------------------------------------------------------------

result_most : (lim : Limits) → 2 ≤ lim.powers → (t p : ℕ) (x : Time) → t ≤ lim.tasks → p ≤ lim.processors → length (result_line lim t x p) ≤ result_bytes lim
result_most lim w t p (tick x) h g =
    let on = width_monotone lim p lim.processors g in
    simp (length_line, length_numbers, length_none) (omega (arith, w, width_monotone lim t lim.tasks h, on, width_powers lim x (omega (arith, w))))
result_most lim w t p never h g = simp length-append (omega (arith, w, length_decimal lim t, width_monotone lim t lim.tasks h))

end_most : (lim : Limits) → 2 ≤ lim.powers → (x : Time) → length (end_line lim x) ≤ end_bytes lim
end_most lim w (tick x) = simp (length_line, length_numbers, length_none) (omega (arith, width_powers lim x (omega (arith, w))))
end_most lim w never = omega (arith, w)

-- Processors ---------------------------------------------------------------------------------------------------------------

lowest_within : (b : ℕ) (ps : List ℕ) → ((p : ℕ) → In p ps → p ≤ b) → lowest ps ≤ b
unfolding lowest
lowest_within b [] h = omega arith
lowest_within b (p ∷ []) h = h p (inl refl)
lowest_within b (p ∷ q ∷ ps) h = omega (arith, h p (inl refl))

module _ (lim : Limits) (w : 2 ≤ lim.powers) (ds : List Outcome) (h : (d : Outcome) → In d ds → d.processor ≤ lim.processors) where
  processor_most : (t : ℕ) (x : Time) → first_processor t x ds ≤ lim.processors
  unfolding first_processor
  processor_most t x =
      lowest_within lim.processors (map (λ d. d.processor) (keep (λ d. same d.time x) (of_task t ds)))
      (λ p i.
      let (d, k, e) = in_map (λ d. d.processor) p (keep (λ d. same d.time x) (of_task t ds)) i in
      let (m, _) = in_keep (λ d. same d.time x) d (of_task t ds) k in
      rw (← e) (h d (in_task t d ds m).0))

  lines_most : (ts : List ℕ) → ((t : ℕ) → In t ts → t ≤ lim.tasks) → length (result_lines lim ts ds) ≤ length ts * result_bytes lim
  unfolding result_lines
  lines_most [] g = omega (arith, zero-mul (result_bytes lim))
  lines_most (t ∷ ts) g =
      let x = first_finish t ds in
      let line = result_most lim w t (first_processor t x ds) x (g t (inl refl)) (processor_most t x) in
      simp length-append (omega (arith, line, lines_most ts (λ u i. g u (inr i)), suc-mul (length ts) (result_bytes lim)))

  pub text_most : (j : Job) → j.tasks ≤ lim.tasks → length (replay_text lim j ds) ≤ replay_bytes lim
  unfolding replay_text
  text_most j g =
      let lines = lines_most (below j.tasks) (λ t i. omega (arith, in_below j.tasks t i)) in
      let n : length (below j.tasks) ≡ j.tasks = length_count 0 j.tasks in
      let m = mul-le-mul {n₁ = length (below j.tasks)} {m₁ = result_bytes lim} {n₂ = lim.tasks} {m₂ = result_bytes lim} (omega (arith, n, g)) (omega arith) in
      simp length-append (omega (arith, lines, m, end_most lim w (replay_makespan j ds)))

-- The replay in memory ------------------------------------------------------------------------------------------------

pub answer_most : {lim : Limits} {capacity : ℕ} {mem : List ℕ} → 2 ≤ lim.powers → LinesHeld lim capacity (nth mem 0) mem
    → length (replay_text lim (job_in mem) (outcomes_in capacity mem)) ≤ replay_bytes lim
answer_most {lim} {capacity} {mem} w s =
    text_most lim w (outcomes_in capacity mem)
    (λ d i.
    let (n, l, j) = in_placed false mem capacity (nth mem 3 + 1) (nth mem 0) d i in
    omega (arith, row_on false (row_at capacity n) (nth mem 3 + 1) (nth mem 1) mem (s.row n l).processor_of d j, (sizes s.job).processors_most))
    (job_in mem) (rw (tasks_in_lem mem) (sizes s.job).tasks_most.0)

-- With the limits of document 01: 255 R lines of at most 20 bytes each, and an L line of at most 13.
pub longest : replay_bytes document01 ≡ 5113
unfolding width width_from
longest = refl
