-- The cells' times in lanes, raised to the first data; late they are never, so nothing is waited for.
use Rattle.lists.proofs.Prelude.{replicate, never, document01}
use Rattle.heads.specs.Layout.{lanes_most}
use Rattle.jobs.proofs.Held.{sizes}
use Rattle.rounds.specs.Arrivals.{TimeTable}
use Rattle.ticks.proofs.HeldLaws.{never_holds}
use Rattle.rounds.proofs.TimeTables.{table_all, table_held, supplied_lanes}
use Rattle.rounds.proofs.times.first_starts.Goals as goal

pub raise_data-requires : goal.raise_data-requires
raise_data-requires c =
    let (s, links, delays, t, _, y) = c.requires in
    let e = c.lanes_of.ensures in
    let f : TimeTable document01 (λ p. never) c.args.house.mem.now (replicate lanes_most c.no_time.result) =
    rw c.no_time.ensures (table_all _ (sizes s.1.job).lanes_fit never_holds) in
    (s, links, delays, t, supplied_lanes s.1 c.args.t y e f, table_held e, table_held f)
