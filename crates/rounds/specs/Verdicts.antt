-- What the checker's answer means: document 01's numbers and values.
use Rattle.std.specs.Prelude.{ℕ, List, [], ◌∷◌, Result, Ok, Err}
use Rattle.definitions.specs.Tools.{Verdict, Says}
use Rattle.text.specs.Numbers.{number_of}
use Rattle.rounds.specs.declared.Fault.{Fault}
use Rattle.rounds.specs.declared.Fault.TheVariants.{Doubled, Refused}

-- Document 01's number and values for each case of the checker's answer: none if the plan is accepted; with 12 the task.
abbrev pub refusal_of : Result (Unit {0}) Fault → List ℕ
refusal_of (Ok done) = []
refusal_of (Err (Doubled t)) = 12 ∷ t ∷ []
refusal_of (Err (Refused e)) = number_of e ∷ []

-- The checker's answer r to texts of which this is the verdict.
abbrev pub Judged : Verdict → Result (Unit {0}) Fault → Type 0
Judged v r = Says v (refusal_of r)
