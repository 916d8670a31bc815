use Rattle.jobs.proofs.Held.{sizes}
use Rattle.rounds.proofs.TimeTables.{delays_none}
use Rattle.rounds.proofs.times.Delays.fill.Goals as goal

pub loop-q-init : goal.loop-q-init
loop-q-init c = let (h, e, f) = c.requires in ((sizes h.1).lanes_fit, delays_none e f)
