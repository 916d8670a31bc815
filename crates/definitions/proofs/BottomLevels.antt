-- The bottom levels of a job without a circle are as the document says, each from those of its successors.
use Rattle.std.specs.Prelude.{if◌then◌else◌}
use mathlib.Core.Path.{◌≡◌, refl, ap, ◌∙◌, sym}
use mathlib.Core.Logic.{◌⊎◌, inl, inr, ⊎_elim}
use mathlib.Core.List.{List, [], map}
use mathlib.Core.Bool.{Bool, true, false, true≢false}
use Prim.Native.Nat.{ℕ, zero, suc, ◌+◌, ◌<◌, ◌≤◌}
use native.Mathlib.Omega.{arith}
use lib.ListN.{length, length-map}
use Rattle.definitions.specs.Lists.{In, nth, below, same_numbers, greatest}
use Rattle.definitions.specs.Limits.{Limits}
use Rattle.definitions.specs.Job.{Edge, Job, outgoing, Circle}
use Rattle.definitions.specs.Planner.{scaled_run, scaled_message, raised, settled, bottom_levels}
use Rattle.definitions.proofs.Lists.{map_same, each_or_one, length_count, in_below, same_numbers_lem, nth_below}
use Rattle.definitions.specs.Facts.{JobFacts}
use Rattle.definitions.proofs.Tasks.{in_outgoing}
use Rattle.definitions.proofs.Circle.{Chain, stay, step, chain_circle, circle_seen}

-- Rounds ------------------------------------------------------------------------------------------------------

module _ (j : Job) where
  -- The level of task t from those known for its successors.
  abbrev level_from : List ℕ → ℕ → ℕ
  level_from known t = scaled_run j t + greatest (map (λ e. scaled_message j e + nth known e.to) (outgoing j t))

  raised_at : (known : List ℕ) (t : ℕ) → t < j.tasks → nth (raised j known) t ≡ level_from known t
  unfolding raised
  raised_at known t h = nth_below (level_from known) j.tasks t h

  length_raised : (known : List ℕ) → length (raised j known) ≡ j.tasks
  unfolding raised
  length_raised known = length-map (below j.tasks) (level_from known) ∙ length_count 0 j.tasks

  -- What is known after n rounds.
  rounds : ℕ → List ℕ
  rounds zero = []
  rounds (suc n) = raised j (rounds n)

  -- Rounds end where nothing changes, if nothing changes after the last.
  settled_same : (n k m : ℕ) → m ≡ k + n → raised j (rounds m) ≡ rounds m → raised j (settled j n (rounds k)) ≡ settled j n (rounds k)
  unfolding settled rounds
  settled_same zero k m s h = let same : m ≡ k = omega arith in rw same at h
  settled_same (suc n) k m s h = by (same_numbers (raised j (rounds k)) (rounds k)) refl (settled_same n (suc k) m (omega arith) h)
    where
      by : (b : Bool) → same_numbers (raised j (rounds k)) (rounds k) ≡ b
          → raised j (settled j n (rounds (suc k))) ≡ settled j n (rounds (suc k))
          → raised j (if b then rounds k else settled j n (rounds (suc k))) ≡ (if b then rounds k else settled j n (rounds (suc k)))
      by true e r = same_numbers_lem (raised j (rounds k)) (rounds k) e
      by false e r = r

  -- The level of a task is the same where those known for its successors are.
  level_same : (known others : List ℕ) (t : ℕ) → ((e : Edge) → In e (outgoing j t) → nth known e.to ≡ nth others e.to)
      → level_from known t ≡ level_from others t
  level_same known others t h =
      ap (λ xs. scaled_run j t + greatest xs)
      (map_same (λ e. scaled_message j e + nth known e.to) (λ e. scaled_message j e + nth others e.to) (outgoing j t) (λ e i. ap (λ x. scaled_message j e + x) (h e i)))

  -- If round n + 1 changes the level of task t, a chain of n edges leaves t.
  change : ((e : Edge) → In e j.edges → e.to < j.tasks)
      → (n t : ℕ) → t < j.tasks → (nth (rounds (suc n)) t ≡ nth (rounds n) t) ⊎ Chain j.edges j.tasks t n
  unfolding rounds
  change b zero t h = inr (stay h)
  change b (suc n) t h =
      ⊎_elim
      (λ f. inl (raised_at (rounds (suc n)) t h ∙ level_same (rounds (suc n)) (rounds n) t f ∙ sym (raised_at (rounds n) t h)))
      (λ r. let (k, q) = in_outgoing j t r.0 r.1 in inr (step h r.0 k q refl r.2))
      (each_or_one
      (λ e. nth (rounds (suc n)) e.to ≡ nth (rounds n) e.to)
      (λ e. Chain j.edges j.tasks e.to n)
      (outgoing j t)
      (λ e i. change b n e.to (b e (in_outgoing j t e i).0)))

  -- Without a circle the round after the last changes nothing.
  rounds_same : ((e : Edge) → In e j.edges → e.to < j.tasks) → (Circle j → ⊥) → 1 ≤ j.tasks
      → raised j (rounds j.tasks) ≡ rounds j.tasks
  unfolding rounds raised
  rounds_same b free l = by j.tasks refl
    where
      by : (n : ℕ) → n ≡ j.tasks → raised j (rounds n) ≡ rounds n
      by zero e = absurd (omega arith)
      by (suc n) e =
          map_same (level_from (rounds (suc n))) (level_from (rounds n)) (below j.tasks)
          (λ t i.
          let h : t < j.tasks = in_below j.tasks t i in
          let same : nth (rounds (suc (suc n))) t ≡ nth (rounds (suc n)) t = ⊎_elim (λ q. q) (λ c. absurd (free (chain_circle (rw e at c)))) (change b (suc n) t h) in
          sym (raised_at (rounds (suc n)) t h) ∙ same ∙ raised_at (rounds n) t h)

module _ (l : Limits) (j : Job) (facts : JobFacts l j) where
  -- A job that was read has no circle.
  pub no_path : Circle j → ⊥
  no_path c = true≢false (sym (circle_seen j facts.to_task c) ∙ facts.no_circle)

  -- One round more leaves the bottom levels as they are.
  pub bottom_levels_lem : raised j (bottom_levels j) ≡ bottom_levels j
  unfolding bottom_levels rounds
  bottom_levels_lem = settled_same j j.tasks 0 j.tasks (omega arith) (rounds_same j facts.to_task no_path facts.some_task)

  -- The bottom level of a task: its scaled run time, and the largest, over successors, of scaled message + the successor's.
  pub bottom_level : (t : ℕ) → t < j.tasks
      → nth (bottom_levels j) t
      ≡ scaled_run j t + greatest (map (λ e. scaled_message j e + nth (bottom_levels j) e.to) (outgoing j t))
  bottom_level t h = ap (λ xs. nth xs t) (sym bottom_levels_lem) ∙ raised_at j (bottom_levels j) t h

  pub length_bottom_levels : length (bottom_levels j) ≡ j.tasks
  length_bottom_levels = ap length (sym bottom_levels_lem) ∙ length_raised j (bottom_levels j)
