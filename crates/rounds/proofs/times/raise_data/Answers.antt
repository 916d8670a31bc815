use Rattle.lists.proofs.Prelude.{refl, true, false}
use Rattle.orders.proofs.Walk.{pass_first, pass_at, pass_on}
use Rattle.jobs.proofs.Held.{enters_run}
use Rattle.ticks.specs.Floats.{lane_time, time_of}
use Rattle.rounds.proofs.Walks.{run_part}
use Rattle.rounds.proofs.TimeLaws.{feeds}
use Rattle.rounds.proofs.TimeTables.{table_held, gathered_none, gathered_next, gathered_same, gathered_done, ready_least, waits_not, edge_ends}
use Rattle.rounds.proofs.times.raise_data.Goals as goal
use Rattle.rounds.proofs.times.raise_data.Goals.{then-may_wait, else-may_wait}

pub loop-cell-init : goal.loop-cell-init
loop-cell-init c =
    let p = c.requires in
    (pass_first (run_part (enters_run p.1 p.3 c.entering-run.ensures)), gathered_none _ false _ p.5 _ _, gathered_none _ true _ p.6 _ _)

pub may_wait-requires : goal.may_wait-requires
may_wait-requires c =
    let p = c.requires in (
      edge_ends p.0.1 c.args.t p.4 (pass_at c.loop-cell.invariant.0 c.loop-cell-test.true),
      (ready_least p.0.1.job p.5 c.least-x.ensures).0,
      (ready_least p.0.1.job p.6 c.least-y.ensures).0,
      p.2.most,
    )

pub raise_edge-requires : goal.raise_edge-requires
raise_edge-requires c =
    let p = c.requires in
    let l = c.loop-cell in
    let i = pass_at l.invariant.0 c.loop-cell-test.true in
    (p.0.1.job, p.2.table, feeds c.args.t p.0.1 p.4.placed i, table_held l.invariant.1, table_held l.invariant.2)

pub loop-cell-preserved : goal.loop-cell-preserved
loop-cell-preserved c =
    let p = c.requires in
    let a = c.args in
    let house = a.house in
    let l = c.loop-cell in
    let (w, e, f) = l.invariant in
    let taken = c.loop-cell-test.true in
    let i = pass_at w taken in
    let on = pass_on w taken _ refl in
    elim c.if-may_wait.branch [
      | then-may_wait b ↦ (
        on,
        rw b.starts-is (gathered_next house.capacity false (lane_time a.starts.now.early) a.t w e b.raise_edge.ensures.0),
        rw b.starts-is (gathered_next house.capacity true (lane_time a.starts.now.late) a.t w f b.raise_edge.ensures.1),
      )
      | else-may_wait b ↦
          let (x, y) = c.may_wait.ensures b.if-may_wait.false in (
            on,
            rw b.starts-is (gathered_same house.capacity false (lane_time a.starts.now.early) a.t w e (λ q o.
                waits_not p.0.1 a.t p.4 p.2.over _ i q o false (time_of c.least-x.result) x
                ((ready_least p.0.1.job p.5 c.least-x.ensures).1 q o))),
            rw b.starts-is (gathered_same house.capacity true (lane_time a.starts.now.late) a.t w f (λ q o.
                waits_not p.0.1 a.t p.4 p.2.over _ i q o true (time_of c.least-y.result) y
                ((ready_least p.0.1.job p.6 c.least-y.ensures).1 q o))),
          )
    ]

pub returns : goal.returns
returns c =
    let p = c.requires in
    let a = c.args in
    let (w, e, f) = c.loop-cell.invariant in (
      gathered_done a.house.capacity false (lane_time a.starts.now.early) a.t w e p.0.1 p.4.placed c.loop-cell-test.false,
      gathered_done a.house.capacity true (lane_time a.starts.now.late) a.t w f p.0.1 p.4.placed c.loop-cell-test.false,
    )
