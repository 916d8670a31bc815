-- The definitions of the public answers, by what was read of both texts.
use Rattle.lists.proofs.Prelude.{◌≡◌, refl, List, ℕ, document01, Result, good, bad, and_then}
use Rattle.lists.proofs.Prelude.{Job, read_job, Plan, read_plan, verdict_for, verdict, replayed, replay_answer}
use Rattle.definitions.specs.Tools.{verdict_on}
use Rattle.plans.specs.Loading.{with_plan, read_both}
use Rattle.rounds.specs.Tools.{verdict_both, replay_both}

then_then : {A B C : Type 0} (x : Result A) (f : A → Result B) (g : B → Result C) → and_then (and_then x f) g ≡ and_then x (λ a. and_then (f a) g)
then_then (good a) f g = refl
then_then (bad n) f g = refl

module _ (job plan : List ℕ) where
  pub verdict_both_lem : verdict document01 job plan ≡ verdict_both document01 (read_both document01 job plan)
  unfolding verdict with_plan
  verdict_both_lem = by (read_job document01 job)
    where
      for : (j : Job) (x : Result Plan) → verdict_for document01 j x ≡ verdict_both document01 (and_then x (λ p. good (j, p)))
      for j (good p) = refl
      for j (bad n) = refl

      by : (x : Result Job)
          → verdict_on document01 x plan ≡ verdict_both document01 (and_then x (λ j. and_then (read_plan document01 j plan) (λ p. good (j, p))))
      by (good j) = for j (read_plan document01 j plan)
      by (bad n) = refl

  pub replay_both_lem : (stops : List ℕ) (room : ℕ)
      → replay_answer document01 job plan stops room ≡ replay_both document01 (read_both document01 job plan) stops room
  unfolding replay_answer replayed with_plan
  replay_both_lem stops room = simp then_then
