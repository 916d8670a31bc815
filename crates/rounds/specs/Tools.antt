-- What the three tools answer to texts of which a part was read already.
use Rattle.std.specs.Prelude.{ℕ, List}
use Rattle.definitions.specs.Limits.{Limits}
use Rattle.definitions.specs.Text.{Result, good, bad, and_then}
use Rattle.definitions.specs.Job.{Job}
use Rattle.definitions.specs.Plan.{Plan}
use Rattle.definitions.specs.Stops.{read_stops}
use Rattle.definitions.specs.Replay.{replay, replay_text}
use Rattle.definitions.specs.Tools.{fitting, planned, Verdict, rejected, verdict_for}

-- The planner's answer to a job, read or refused.
abbrev pub plan_of : Limits → Result Job → ℕ → Result (List ℕ)
plan_of l x room = and_then x (λ j. fitting room (planned l j))

-- The checker's answer to a job and a plan, read or refused.
abbrev pub verdict_both : Limits → Result (Job × Plan) → Verdict
verdict_both l (good (j, p)) = verdict_for l j (good p)
verdict_both l (bad n) = rejected n

-- The replay's answer to a job and a plan that were read, and a stop list's text.
abbrev pub replay_of : Limits → List ℕ → ℕ → Job × Plan → Result (List ℕ)
replay_of l stops room b = and_then (read_stops l b.0 stops) λ ss. fitting room (replay_text l b.0 (replay b.0 ss b.1.lines))

-- The replay's answer to a job and a plan, read or refused, and a stop list's text.
abbrev pub replay_both : Limits → Result (Job × Plan) → List ℕ → ℕ → Result (List ℕ)
replay_both l x stops room = and_then x (replay_of l stops room)
