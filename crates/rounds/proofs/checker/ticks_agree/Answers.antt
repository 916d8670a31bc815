-- The table of ends has room for two times of each task.
use Rattle.std.proofs.Common.{rules}
use Rattle.lists.proofs.Prelude.{arith}
use Rattle.jobs.proofs.Held.{sizes}
use Rattle.rounds.proofs.checker.ticks_agree.Goals as goal

pub with_ends-requires : goal.with_ends-requires
with_ends-requires c = let z = sizes c.requires.0.standing.job in (omega arith, λ ends room. search rules)
