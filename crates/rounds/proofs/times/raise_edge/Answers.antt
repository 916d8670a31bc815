use Rattle.lists.proofs.Prelude.{true, false, ◌<◌, arith}
use Rattle.jobs.proofs.Held.{sizes}
use Rattle.rounds.proofs.TimeTables.{table_held, halves_next}
use Rattle.rounds.proofs.times.raise_edge.Goals as goal

pub raise_arrivals-requires : goal.raise_arrivals-requires
raise_arrivals-requires c =
    let p = c.requires in
    let r = c.entering-edge.ensures in
    let (x, y) = c.loop-h.invariant in
    let two : c.loop-h.h < 2 = omega (arith, (sizes p.0).lanes_fit, c.loop-h-test.true) in
    ((_, p.0), p.1, r.held, omega (arith, r.within, p.0.size), r.little, two, table_held x, table_held y)

pub loop-h-preserved : goal.loop-h-preserved
loop-h-preserved c =
    let l = c.loop-h in
    let r = c.entering-edge.result in
    let a = c.args in
    let (x, y) = c.raise_arrivals.ensures in (
      halves_next false r.volume r.row a.starts.now.early l.h l.invariant.0 x,
      halves_next true r.volume r.row a.starts.now.late l.h l.invariant.1 y,
    )
