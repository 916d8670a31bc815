use Rattle.lists.proofs.Prelude.{add-zero}
use Rattle.jobs.proofs.Held.{sizes}
use Rattle.rounds.proofs.times.Delays.fill_row.Goals as goal

pub loop-p-init : goal.loop-p-init
loop-p-init c = ((sizes c.requires.0.1).lanes_fit, rw add-zero c.requires.2)
