-- The arrivals of the half.
use Rattle.rounds.proofs.TimeTables.{table_raise}
use Rattle.rounds.proofs.times.raise_arrivals.Goals as goal

pub returns : goal.returns
returns c =
    let p = c.requires in
    let (x, y) = c.arrivals-r.ensures in
    (table_raise p.0.1 p.6 x p.5 c.raise_half.ensures, table_raise p.0.1 p.7 y p.5 c.raise_half-2.ensures)
