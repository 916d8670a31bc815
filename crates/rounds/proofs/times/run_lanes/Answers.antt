use Rattle.lists.proofs.Prelude.{arith}
use Rattle.jobs.proofs.Held.{sizes}
use Rattle.rounds.proofs.times.run_lanes.Goals as goal

pub loop-p-init : goal.loop-p-init
loop-p-init c = (c.requires.3, (sizes c.requires.0.1).lanes_fit, λ q h. absurd (omega arith))

pub finish_tick-requires : goal.finish_tick-requires
finish_tick-requires c = let (h, x) = c.requires.2 _ c.loop-p-test.true in (h, x, c.run_time.ensures.1)
