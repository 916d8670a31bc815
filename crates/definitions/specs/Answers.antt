-- What the three tools answer to given bytes, and what the three programs print.
use Rattle.std.specs.Prelude.{ℕ, ◌≡◌, List, [], ◌∷◌, ltb, eqb, length, if◌then◌else◌}
use Rattle.definitions.specs.Lists.{bytes, In}
use Rattle.definitions.specs.Limits.{Limits}
use Rattle.definitions.specs.Text.{line_text, Result, good, bad, and_then}
use Rattle.definitions.specs.Job.{Job, read_job}
use Rattle.definitions.specs.Plan.{Line, Plan, read_plan, plan_text}
use Rattle.definitions.specs.Stops.{read_stops}
use Rattle.definitions.specs.Refusals.{doubled_tasks, plan_refusal}
use Rattle.definitions.specs.Planner.{plan_for}
use Rattle.definitions.specs.Replay.{replay, replay_text}

-- "The output slice is shorter than the answer" (8): room is the slice's length.
abbrev pub fitting : ℕ → List ℕ → Result (List ℕ)
fitting room answer = if ltb room (length answer) then bad 8 else good answer

-- The checker's answer: the plan is accepted; or 12 with the tasks of which it is true; or another number.
pub data Verdict : Type 0 where
  accepted : Verdict
  doubled : List ℕ → Verdict
  rejected : ℕ → Verdict

-- The number and values that the checker answers: none if the plan is accepted; with 12 "a task of which this is true".
abbrev pub Says : Verdict → List ℕ → Type 0
Says accepted ns = ns ≡ []
Says (doubled ts) ns = (t : ℕ) × (ns ≡ 12 ∷ t ∷ []) × In t ts
Says (rejected n) ns = ns ≡ n ∷ []

module _ (l : Limits) where
  -- The plan that the planner gives for a job.
  unfoldable pub planned : Job → List ℕ
  planned j = plan_text l j (plan_for j j.losses)

  -- The planner: the plan's bytes, or the number. The job, then 8.
  unfoldable pub plan_answer : List ℕ → ℕ → Result (List ℕ)
  plan_answer job room = and_then (read_job l job) (λ j. fitting room (planned j))

  -- The checker's answer to a plan that was read, where this number is due.
  abbrev pub verdict_of : List Line → ℕ → Verdict
  verdict_of ns n = if eqb n 0 then accepted else (if eqb n 12 then doubled (doubled_tasks ns) else rejected n)

  -- The checker's answer to a plan's text, read or refused.
  abbrev pub verdict_for : Job → Result Plan → Verdict
  verdict_for j (good p) = verdict_of p.lines (plan_refusal j p)
  verdict_for j (bad n) = rejected n

  -- The checker's answer to a job's text, read or refused, and a plan's.
  abbrev pub verdict_on : Result Job → List ℕ → Verdict
  verdict_on (good j) plan = verdict_for j (read_plan l j plan)
  verdict_on (bad n) plan = rejected n

  -- The checker: the job, then the plan, then 12, 13 and 14.
  unfoldable pub verdict : List ℕ → List ℕ → Verdict
  verdict job plan = verdict_on (read_job l job) plan

  -- The replay: the R and L lines, or the number. "The replay skips 12, 13 and 14".
  unfoldable pub replayed : List ℕ → List ℕ → List ℕ → Result (List ℕ)
  replayed job plan stops =
      and_then (read_job l job) λ j.
      and_then (read_plan l j plan) λ p.
      and_then (read_stops l j stops) λ ss.
      good (replay_text l j (replay j ss p.lines))

  -- The replay into an output slice of this length.
  unfoldable pub replay_answer : List ℕ → List ℕ → List ℕ → ℕ → Result (List ℕ)
  replay_answer job plan stops room = and_then (replayed job plan stops) (fitting room)

  -- The programs "print `N,` and the number on a refusal".
  abbrev pub printed : Result (List ℕ) → List ℕ
  printed (good answer) = answer
  printed (bad n) = line_text l (bytes "N,") (n ∷ [])

  -- The check program "answers `OK`", and prints "`N,` and the number on a refusal, for 12 also a comma and the task": what it prints
  -- where the checker answers this number and these values.
  abbrev pub check_printed : List ℕ → List ℕ
  check_printed [] = bytes "OK\n"
  check_printed (n ∷ ns) = line_text l (bytes "N,") (n ∷ ns)

-- A verdict as a number and tasks.
abbrev pub numbered : Verdict → ℕ × List ℕ
numbered accepted = (0, [])
numbered (doubled ts) = (12, ts)
numbered (rejected n) = (n, [])
