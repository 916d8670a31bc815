-- The checker's answer, by its tests of a plan.
use Rattle.std.specs.Prelude.{Ok, Err}
use Rattle.lists.proofs.Prelude.{◌≡◌, refl, [], true, false, ℕ, In, Limits, first_of, good, Job, Plan, doubled_tasks, ticks_agree, bounds_agree, verdict_for}
use Rattle.definitions.specs.Refusals.{plan_refusal}
use Rattle.definitions.proofs.Lists.{in_some}
use Rattle.rounds.specs.Verdicts.{Judged}
use Rattle.text.specs.declared.refusal.Refusal.TheVariants.{WrongTick, WrongMakespan}
use Rattle.rounds.specs.declared.Fault.TheVariants.{Doubled, Refused}

-- What the tests found.
module _ (lim : Limits) (j : Job) (p : Plan) where
  pub answer_doubled : (t : ℕ) → In t (doubled_tasks p.lines) → Judged (verdict_for lim j (good p)) (Err (Doubled t))
  unfolding plan_refusal first_of
  answer_doubled t i = rw (in_some t (doubled_tasks p.lines) i) (t, refl, i)

  module _ (one : doubled_tasks p.lines ≡ []) where
    pub answer_ticks : ticks_agree j p.lines ≡ false → Judged (verdict_for lim j (good p)) (Err (Refused WrongTick))
    unfolding plan_refusal first_of
    answer_ticks e = rw (one, e)

    module _ (e : ticks_agree j p.lines ≡ true) where
      pub answer_bounds : bounds_agree j p ≡ false → Judged (verdict_for lim j (good p)) (Err (Refused WrongMakespan))
      unfolding plan_refusal first_of
      answer_bounds f = rw (one, e, f)

      pub answer_accepted : bounds_agree j p ≡ true → (u : Unit {0}) → Judged (verdict_for lim j (good p)) (Ok u)
      unfolding plan_refusal first_of
      answer_accepted f u = rw (one, e, f)
