use Rattle.lists.proofs.Prelude.{arith}
use Rattle.jobs.proofs.Held.{sizes}
use Rattle.rounds.proofs.walk.edges_at.Goals as goal

pub overflow_cast-mem : goal.overflow_cast-mem
overflow_cast-mem c = omega (arith, sizes c.requires.1)

pub overflow_cast-mem-2 : goal.overflow_cast-mem-2
overflow_cast-mem-2 c = omega (arith, sizes c.requires.1)
