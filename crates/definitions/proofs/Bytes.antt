-- The lines that the replay answers.
use mathlib.Core.Path.{◌≡◌, refl, ap, ◌∙◌, sym}
use mathlib.Core.Logic.{inl, inr}
use mathlib.Core.List.{List, [], ◌∷◌, ◌++◌, map, append_assoc}
use Prim.Native.Nat.{ℕ, zero, suc, ◌+◌, ◌<◌}
use native.Mathlib.Omega.{arith}
use Rattle.definitions.specs.Lists.{bytes, count_from, below, In}
use Rattle.definitions.specs.Limits.{Limits}
use Rattle.definitions.specs.Text.{line_text, good}
use Rattle.definitions.specs.Job.{Job}
use Rattle.definitions.specs.Plan.{Plan}
use Rattle.definitions.specs.Stops.{Stop}
use Rattle.definitions.specs.Times.{tick, never, Outcome}
use Rattle.definitions.specs.Replay.{replay, first_finish, first_processor, replay_makespan, result_line, result_lines, end_line, replay_text}
use Rattle.definitions.specs.Answers.{replayed}
use Rattle.definitions.specs.Claims.{Done, results_text, undone_text, Read}
use Rattle.definitions.proofs.Lists.{in_below}

-- Of the numbers from k on: those below t, then t, then the others.
count_parts : (k d n t : ℕ) → k + d ≡ t → t < k + n → (others : List ℕ) × (count_from k n ≡ count_from k d ++ t ∷ others)
unfolding count_from
count_parts k d zero t e h = absurd (omega arith)
count_parts k zero (suc n) t e h = let q : k ≡ t = omega arith in (count_from (suc k) n, ap (λ u. u ∷ count_from (suc k) n) q)
count_parts k (suc d) (suc n) t e h =
    let (others, q) = count_parts (suc k) d n t (omega arith) (omega arith) in
    (others, ap (λ ts. k ∷ ts) q)

pub same_tick : (x y : ℕ) → tick x ≡ tick y → x ≡ y
same_tick x y h = cc

module _ (l : Limits) where
  -- What the replay answers to texts that were read.
  pub replayed_read : (job plan stops : List ℕ) (j : Job) (p : Plan) (ss : List Stop) → Read l job plan stops j p ss
      → replayed l job plan stops ≡ good (replay_text l j (replay j ss p.lines))
  unfolding replayed
  replayed_read job plan stops j p ss r = rw (r.job_read, r.plan_read, r.stops_read)

  -- Tasks that each have a first finish have R lines with ticks.
  results_done : (ds : List Outcome) (ts : List ℕ) → ((t : ℕ) → In t ts → (x : ℕ) × (first_finish t ds ≡ tick x))
      → (rs : List Done) × (map (λ r. r.task) rs ≡ ts) × (result_lines l ts ds ≡ results_text l rs)
  unfolding result_lines results_text
  results_done ds [] h = ([], refl, refl)
  results_done ds (t ∷ ts) h =
      let (x, e) = h t (inl refl) in
      let (rs, a, b) = results_done ds ts (λ u i. h u (inr i)) in (
        record { task = t; processor = first_processor t (tick x) ds; tick = x } ∷ rs,
        ap (λ us. t ∷ us) a,
        rw (e, b),
      )

  results_append : (ds : List Outcome) (ts us : List ℕ) → result_lines l (ts ++ us) ds ≡ result_lines l ts ds ++ result_lines l us ds
  unfolding result_lines
  results_append ds [] us = refl
  results_append ds (t ∷ ts) us =
      rw (results_append ds ts us)
      (sym (append_assoc (result_line l t (first_finish t ds) (first_processor t (first_finish t ds) ds)) (result_lines l ts ds) (result_lines l us ds)))

  results_parts : (ds : List Outcome) (t : ℕ) (ts us : List ℕ) → first_finish t ds ≡ never
      → result_lines l (ts ++ t ∷ us) ds ≡ result_lines l ts ds ++ undone_text l t ++ result_lines l us ds
  unfolding result_lines
  results_parts ds t ts us e =
      results_append ds ts (t ∷ us) ∙ rw e (sym (append_assoc (result_lines l ts ds) (undone_text l t) (result_lines l us ds)))

  -- The answer where every task has a first finish and the round ends at x.
  pub answer_done : (j : Job) (ds : List Outcome) (x : ℕ) → ((t : ℕ) → t < j.tasks → (x : ℕ) × (first_finish t ds ≡ tick x)) → replay_makespan j ds ≡ tick x
      → (rs : List Done) × (map (λ r. r.task) rs ≡ below j.tasks) × (replay_text l j ds ≡ results_text l rs ++ line_text l (bytes "L,") (x ∷ []))
  unfolding replay_text
  answer_done j ds x h e =
      let (rs, a, b) = results_done ds (below j.tasks) (λ t i. h t (in_below j.tasks t i)) in
      (rs, a, rw (b, e))

  -- The answer where task t is undone.
  pub answer_undone : (j : Job) (ds : List Outcome) (t : ℕ) → t < j.tasks → first_finish t ds ≡ never
      → (after : List ℕ) × (replay_text l j ds ≡ result_lines l (below t) ds ++ undone_text l t ++ after)
      × (replay_makespan j ds ≡ never → (others : List ℕ) × (after ≡ others ++ bytes "L,-\n"))
  unfolding replay_text
  answer_undone j ds t h e =
      let (us, q) = count_parts 0 t j.tasks t (omega arith) (omega arith) in
      let z = end_line l (replay_makespan j ds) in (
        result_lines l us ds ++ z,
        ap (λ ts. result_lines l ts ds ++ z) q
            ∙ ap (λ s. s ++ z) (results_parts ds t (below t) us e)
            ∙ append_assoc (result_lines l (below t) ds ++ undone_text l t) (result_lines l us ds) z,
        λ n. (result_lines l us ds, rw n),
      )
