use Rattle.lists.proofs.Prelude.{arith}
use Rattle.jobs.proofs.Held.{sizes}
use Rattle.rounds.proofs.numbers.number_at.Goals as goal

pub overflow_cast-r : goal.overflow_cast-r
overflow_cast-r c = let pre = c.requires in omega (arith, sizes pre.0.1, pre.1)
