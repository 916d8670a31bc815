-- Run times and delays in their rows, and their sums.
use Rattle.std.specs.Prelude.{if◌then◌else◌}
use Rattle.lists.proofs.Prelude.{◌≡◌, refl, ap, ◌∙◌, sym, ⊎_elim, List, [], ◌∷◌, map, Bool, true, false, not, ℕ, ◌+◌, ◌*◌, ◌-◌, ◌%◌, ◌^◌, ◌<◌, ◌≤◌, arith, mul-le-mul, eqb-true, ne_eqb, ltb-true, ltb-false, eqb, ltb, length, take, drop, length-map, ext_get_or, nth, count_from, below, keep, sum, run_time, delay, scaled_run, total_delay, Limits}
use borrow.Rule.Slice.PartMut.{mid_of}
use Rattle.lists.proofs.ListLaws.{part_length, part_nth}
use Rattle.definitions.proofs.Lists.{length_count, in_below, sum_most}
use Rattle.heads.specs.Layout.{job_size}
use Rattle.jobs.specs.Held.{number_at, run_at, delay_at, job_in, JobHeld}
use Rattle.rounds.specs.Levels.{row_sum, row_most, scaled_most}
use Rattle.lists.proofs.Counting.{equal_or_not, below_same, get_or_below}
use Rattle.jobs.proofs.Held.{tasks_in_lem, processors_in, run_in, delay_in, Sizes, sizes, row_below}

-- Rows --------------------------------------------------------------------------------------------------------

-- The cells of row r end within the job.
pub row_room : {lim : Limits} {capacity : ℕ} {mem : List ℕ} → Sizes lim capacity mem → (r : ℕ) → r < nth mem 0 + nth mem 1 → number_at mem r 0 + nth mem 1 ≤ job_size capacity
row_room {mem} s r h = omega (arith, row_below s r (nth mem 1 - 1) h (omega arith))

module _ {lim : Limits} {capacity : ℕ} {mem : List ℕ} (held : JobHeld lim capacity mem) where
  pub run_cell : (t p : ℕ) → t < nth mem 0 → p < nth mem 1 → nth mem (run_at mem t p) ≤ lim.run_time
  run_cell t p h g = rw (← run_in mem t p h g) (held.facts.run_most t p (rw (tasks_in_lem mem) h) (rw (processors_in mem) g))

  pub delay_cell : (p q : ℕ) → p < nth mem 1 → q < nth mem 1 → nth mem (delay_at mem p q) ≤ lim.delay
  delay_cell p q h g = rw (← delay_in mem p q h g) (held.facts.delay_most p q (rw (processors_in mem) h) (rw (processors_in mem) g))

-- Sums --------------------------------------------------------------------------------------------------------

pub sum_below : (f : ℕ → ℕ) (b n : ℕ) → ((i : ℕ) → i < n → f i ≤ b) → sum (map f (below n)) ≤ n * b
sum_below f b n h = rw (length_count 0 n) at (sum_most f (below n) (λ i m. h i (in_below n i m)))

-- A member of which f is 0 may be left out.
sum_others : (f : ℕ → ℕ) (p : ℕ) (xs : List ℕ) → f p ≡ 0 → sum (map f (keep (λ q. not (eqb q p)) xs)) ≡ sum (map f xs)
unfolding sum keep
sum_others f p [] e = refl
sum_others f p (x ∷ xs) e = by (eqb x p) refl (sum_others f p xs e)
  where
    by : (b : Bool) → eqb x p ≡ b → sum (map f (keep (λ q. not (eqb q p)) xs)) ≡ sum (map f xs)
        → sum (map f (if not b then x ∷ keep (λ q. not (eqb q p)) xs else keep (λ q. not (eqb q p)) xs)) ≡ f x + sum (map f xs)
    by true t r = let q : f x ≡ 0 = ap f (eqb-true x p t) ∙ e in omega arith
    by false t r = ap (λ (s : ℕ). f x + s) r

-- The cells of row r, as a part of the memory.
row_part : (mem : List ℕ) (r : ℕ) → number_at mem r 0 + nth mem 1 ≤ length mem
    → take (nth mem 1) (drop (number_at mem r 0) mem) ≡ map (λ q. nth mem (number_at mem r q)) (below (nth mem 1))
row_part mem r h =
    let m = nth mem 1 in
    let cell : ℕ → ℕ = λ q. nth mem (number_at mem r q) in
    let l : length (take m (drop (number_at mem r 0) mem)) ≡ m = part_length mem (number_at mem r 0) m h in
    ext_get_or 0 (take m (drop (number_at mem r 0) mem)) (map cell (below m)) (l ∙ sym (length-map (below m) cell ∙ length_count 0 m))
    (λ i g.
    let e : number_at mem r 0 + i ≡ number_at mem r i = omega arith in
    part_nth mem (number_at mem r 0) m i (omega arith) ∙ ap (nth mem) e ∙ sym (get_or_below cell m i 0 (omega arith)))

module _ {lim : Limits} {capacity : ℕ} (mem : List ℕ) (held : JobHeld lim capacity mem) where
  -- As many numbers as there are processors, each at most b.
  times_most : (b : ℕ) → nth mem 1 * b ≤ lim.processors * b
  times_most b = mul-le-mul {n₁ = nth mem 1} {m₁ = b} {n₂ = lim.processors} {m₂ = b} (sizes held).processors_most (omega arith)

  pub run_sum_most : (t : ℕ) → t < nth mem 0 → row_sum mem t ≤ lim.processors * lim.run_time
  run_sum_most t h =
      omega (arith, sum_below (λ q. nth mem (run_at mem t q)) lim.run_time (nth mem 1) (λ q g. run_cell held t q h g), times_most lim.run_time)

  pub delay_sum_most : (p : ℕ) → p < nth mem 1 → row_sum mem (nth mem 0 + p) ≤ lim.processors * lim.delay
  delay_sum_most p h =
      omega (arith, sum_below (λ q. nth mem (delay_at mem p q)) lim.delay (nth mem 1) (λ q g. delay_cell held p q h g), times_most lim.delay)

  row_sum_most : (r : ℕ) → r < nth mem 0 + nth mem 1 → row_sum mem r ≤ row_most lim
  row_sum_most r h = by (ltb r (nth mem 0)) refl
    where
      by : (b : Bool) → ltb r (nth mem 0) ≡ b → row_sum mem r ≤ row_most lim
      by true e = omega (arith, run_sum_most r (ltb-true r (nth mem 0) e))
      by false e =
          let l = ltb-false r (nth mem 0) e in
          let n : r ≡ nth mem 0 + (r - nth mem 0) = omega arith in
          rw n (omega (arith, delay_sum_most (r - nth mem 0) (omega arith)))

  -- The sum of the part of the memory that is row r, from a on, in 64 bits, which hold it.
  pub row_in : row_most lim < 2 ^ 64 → (r a x : ℕ) → r < nth mem 0 + nth mem 1 → a ≡ number_at mem r 0 → x ≡ sum (mid_of a (a + nth mem 1 - a) mem) % 2 ^ 64
      → (x ≡ row_sum mem r) × (x ≤ row_most lim)
  row_in o r a x h z t =
      let s = sizes held in
      let n : a + nth mem 1 - a ≡ nth mem 1 = omega arith in
      let c : sum (mid_of a (a + nth mem 1 - a) mem) ≡ row_sum mem r = rw (n, z) (ap sum (row_part mem r (omega (arith, row_room s r h, s.size)))) in
      let m = row_sum_most r h in
      (omega (arith, t, c, m, o), omega (arith, t, c, m, o))

  run_cells : (t : ℕ) → t < nth mem 0
      → map (run_time (job_in mem) t) (below (job_in mem).processors) ≡ map (λ q. nth mem (run_at mem t q)) (below (nth mem 1))
  run_cells t h = below_same (run_time (job_in mem) t) _ (processors_in mem) (λ q g. run_in mem t q h g)

  -- With one processor the sum is the run time itself.
  pub scaled_one : (t : ℕ) → t < nth mem 0 → nth mem 1 ≡ 1 → row_sum mem t ≡ scaled_run (job_in mem) t
  unfolding scaled_run sum count_from
  scaled_one t h e =
      let m : (job_in mem).processors ≡ 1 = processors_in mem ∙ e in
      rw (← run_cells t h, m) (omega arith)

  pub scaled_more : (t : ℕ) → t < nth mem 0 → (nth mem 1 ≡ 1 → ⊥) → (nth mem 1 - 1) * row_sum mem t ≡ scaled_run (job_in mem) t
  unfolding scaled_run
  scaled_more t h n = rw (← run_cells t h, processors_in mem, ne_eqb (nth mem 1) 1 n)

  scaled_fits : (t : ℕ) → t < nth mem 0 → (nth mem 1 - 1) * row_sum mem t ≤ scaled_most lim
  scaled_fits t h =
      let s = sizes held in
      omega (arith, mul-le-mul {n₁ = nth mem 1 - 1} {m₁ = row_sum mem t} {n₂ = lim.processors} {m₂ = lim.processors * lim.run_time} (omega (arith, s.processors_most)) (run_sum_most t h))

  -- The sum of all rows of delays.
  pub total_in : total_delay (job_in mem) ≡ sum (map (λ p. row_sum mem (nth mem 0 + p)) (below (nth mem 1)))
  unfolding total_delay
  total_in =
      let others : ℕ → ℕ = λ p. sum (map (delay (job_in mem) p) (keep (λ q. not (eqb q p)) (below (job_in mem).processors))) in
      ap sum
      (below_same others (λ p. row_sum mem (nth mem 0 + p)) (processors_in mem)
      (λ p g.
      sum_others (delay (job_in mem) p) p (below (job_in mem).processors) (held.facts.delay_self p (rw (processors_in mem) g))
      ∙ ap sum (below_same (delay (job_in mem) p) _ (processors_in mem) (λ q h. delay_in mem p q g h))))

  pub total_most : (n : ℕ) → n ≤ nth mem 1 → sum (map (λ p. row_sum mem (nth mem 0 + p)) (below n)) ≤ lim.processors * (lim.processors * lim.delay)
  total_most n h =
      let b = lim.processors * lim.delay in
      let m = mul-le-mul {n₁ = n} {m₁ = b} {n₂ = nth mem 1} {m₂ = b} h (omega arith) in
      omega (arith, sum_below (λ p. row_sum mem (nth mem 0 + p)) b n (λ p g. delay_sum_most p (omega arith)), m, times_most b)

  -- What a task's run times are at the most, scaled.
  pub scaled_most_lem : (t : ℕ) → t < nth mem 0 → scaled_run (job_in mem) t ≤ scaled_most lim
  scaled_most_lem t h =
      let some : 1 ≤ lim.processors = omega (arith, (sizes held).some_processor, (sizes held).processors_most) in
      let m = mul-le-mul {n₁ = 1} {m₁ = row_sum mem t} {n₂ = lim.processors} {m₂ = lim.processors * lim.run_time} some (run_sum_most t h) in
      ⊎_elim (λ e. omega (arith, scaled_one t h e, m)) (λ n. omega (arith, scaled_more t h n, scaled_fits t h)) (equal_or_not (nth mem 1) 1)
