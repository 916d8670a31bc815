-- The last message of the edge arrives after the end that is noted by the volume times the greatest delay, at the most.
use Rattle.rounds.proofs.CastLaws.{no_waits}
use Rattle.rounds.proofs.times.may_wait.Goals as goal

pub returns-else-x-ends : goal.returns-else-x-ends
returns-else-x-ends c =
    let (h, x, y, m) = c.requires in
    let n = c.from-n.ensures in
    λ e. no_waits c.edge_from-t.result c.edge_volume.result c.args.most h x y m c.edge_from-t.ensures.0 c.edge_volume.ensures
    (rw (n, c.from.ensures) at c.if-x-ends.false) (rw (n, c.from.ensures) at e)
