use Rattle.lists.proofs.Prelude.{[], ◌∷◌, arith}
use Rattle.console.proofs.Shown.{refusal_counted}
use Rattle.console.proofs.write_doubled.Goals as goal

pub returns-clause-value : goal.returns-clause-value
returns-clause-value c = refusal_counted (12 ∷ c.args.task ∷ []) _ (omega arith) c.line.ensures.value
