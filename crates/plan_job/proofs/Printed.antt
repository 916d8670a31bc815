-- What the plan program prints is no longer than a text.
use Rattle.lists.proofs.Prelude.{◌≡◌, refl, List, [], ◌∷◌, ℕ, ◌≤◌, arith, le-ltb, length, document01, Result, good, bad, and_then}
use Rattle.lists.proofs.Prelude.{Job, read_job, fitting, planned, plan_answer, printed, plan_printed}
use Rattle.definitions.proofs.Reading.{job_facts}
use Rattle.definitions.proofs.Claims.{own_fits, roomy01}
use Rattle.console.proofs.Shown.{refusal_most}

module _ (job : List ℕ) where
  -- The plan, into an output that has room.
  abbrev pub said : Result (List ℕ)
  said = and_then (read_job document01 job) (λ j. good (planned document01 j))

  pub plan_printed_lem : plan_printed job ≡ printed document01 said
  unfolding plan_printed
  plan_printed_lem = refl

  plan_most : (j : Job) → read_job document01 job ≡ good j → length (planned document01 j) ≤ 65536
  plan_most j e = own_fits document01 j (job_facts document01 job j e) roomy01

  -- An output of that length is never too short.
  pub all_fits : (room : ℕ) → room ≡ 65536 → plan_answer document01 job room ≡ said
  unfolding plan_answer
  all_fits room r = by (read_job document01 job) refl
    where
      by : (x : Result Job) → read_job document01 job ≡ x → and_then x (λ j. fitting room (planned document01 j)) ≡ and_then x (λ j. good (planned document01 j))
      by (good j) e = rw (le-ltb room (length (planned document01 j)) (omega (arith, plan_most j e)))
      by (bad n) e = refl

  pub printed_most : length (plan_printed job) ≤ 65536
  printed_most = rw plan_printed_lem (by (read_job document01 job) refl)
    where
      by : (x : Result Job) → read_job document01 job ≡ x → length (printed document01 (and_then x (λ j. good (planned document01 j)))) ≤ 65536
      by (good j) e = plan_most j e
      by (bad n) e = omega (arith, refusal_most (n ∷ []))
