use Rattle.lists.proofs.Prelude.{◌∙◌, arith}
use Rattle.jobs.proofs.Held.{sizes}
use Rattle.rounds.proofs.RunLaws.{line_supplied, line_first, line_room, line_step, line_next, line_done, line_row, line_ended}
use Rattle.rounds.proofs.replaying.Ready.run_line.Goals as goal

pub bounds-mem-3 : goal.bounds-mem-3
bounds-mem-3 c = let z = sizes c.requires.2.standing.job in omega arith

pub row_at-a-requires : goal.row_at-a-requires
row_at-a-requires c = let p = c.requires in omega (arith, sizes p.2.standing.job, p.3)

pub offset_bounds-mem-a : goal.offset_bounds-mem-a
offset_bounds-mem-a c = let p = c.requires in omega (arith, sizes p.2.standing.job, p.3, c.row_at-a.ensures)

pub bounds-mem-a : goal.bounds-mem-a
bounds-mem-a c = let p = c.requires in omega (arith, sizes p.2.standing.job, p.3, c.row_at-a.ensures)

pub first_starts-starts-requires : goal.first_starts-starts-requires
first_starts-starts-requires c =
    let k = c.args.k in
    let p = c.requires in
    let (z, s) = line_supplied k p.2 p.3 p.4 p.1 in
    rw c.row_at-a.ensures ((_, p.2.standing), p.6, p.0, p.2.standing.task_of k p.3, z, s)

pub overflow_add-c-end : goal.overflow_add-c-end
overflow_add-c-end c = let z = sizes c.requires.2.standing.job in omega arith

pub loop-c-init : goal.loop-c-init
loop-c-init c =
    let pre = c.requires in
    line_first c.args.k c.args.stops.now pre.2 pre.3 pre.4

pub replica_at-r-requires : goal.replica_at-r-requires
replica_at-r-requires c = line_room c.loop-c.invariant c.loop-c-test.true c.row_at-a.ensures

pub run_time-n-requires : goal.run_time-n-requires
run_time-n-requires c = (line_step c.loop-c.invariant c.loop-c-test.true c.row_at-a.ensures c.replica_at-r.ensures.0).asked

pub offset_bounds-self-p : goal.offset_bounds-self-p
offset_bounds-self-p c =
    let step = line_step c.loop-c.invariant c.loop-c-test.true c.row_at-a.ensures c.replica_at-r.ensures.0 in
    omega (arith, step.below)

pub bounds-self-p : goal.bounds-self-p
bounds-self-p c = (line_step c.loop-c.invariant c.loop-c-test.true c.row_at-a.ensures c.replica_at-r.ensures.0).below

pub offset_bounds-starts-p : goal.offset_bounds-starts-p
offset_bounds-starts-p c =
    let step = line_step c.loop-c.invariant c.loop-c-test.true c.row_at-a.ensures c.replica_at-r.ensures.0 in
    omega (arith, step.below)

pub bounds-starts-p : goal.bounds-starts-p
bounds-starts-p c = (line_step c.loop-c.invariant c.loop-c-test.true c.row_at-a.ensures c.replica_at-r.ensures.0).below

pub cell_of-requires : goal.cell_of-requires
cell_of-requires c =
    let step = line_step c.loop-c.invariant c.loop-c-test.true c.row_at-a.ensures c.replica_at-r.ensures.0 in
    c.first_starts-starts.ensures.held _ step.processor

pub finish_of-x-requires : goal.finish_of-x-requires
finish_of-x-requires c =
    let step = line_step c.loop-c.invariant c.loop-c-test.true c.row_at-a.ensures c.replica_at-r.ensures.0 in
    (step.ready_small, c.cell_of.ensures.1, c.run_time-n.ensures.1)

pub offset_bounds-stops-p : goal.offset_bounds-stops-p
offset_bounds-stops-p c =
    let step = line_step c.loop-c.invariant c.loop-c-test.true c.row_at-a.ensures c.replica_at-r.ensures.0 in
    omega (arith, step.below)

pub bounds-stops-p : goal.bounds-stops-p
bounds-stops-p c =
    let step = line_step c.loop-c.invariant c.loop-c-test.true c.row_at-a.ensures c.replica_at-r.ensures.0 in
    omega (arith, step.below, c.requires.5)

pub put_early-requires : goal.put_early-requires
put_early-requires c = line_room c.loop-c.invariant c.loop-c-test.true c.row_at-a.ensures

pub offset_bounds-self-p-in-loop-c : goal.offset_bounds-self-p-in-loop-c
offset_bounds-self-p-in-loop-c c =
    let step = line_step c.loop-c.invariant c.loop-c-test.true c.row_at-a.ensures c.replica_at-r.ensures.0 in
    omega (arith, step.below)

pub bounds-self-p-in-loop-c : goal.bounds-self-p-in-loop-c
bounds-self-p-in-loop-c c = (line_step c.loop-c.invariant c.loop-c-test.true c.row_at-a.ensures c.replica_at-r.ensures.0).below

pub loop-c-preserved : goal.loop-c-preserved
loop-c-preserved c =
    let l = c.loop-c.invariant in
    let row = c.row_at-a.ensures in
    let on = c.replica_at-r.ensures.0 in
    let step = line_step l c.loop-c-test.true row on in
    rw c.put_early.ensures
    (line_next l c.loop-c-test.true row on _ _ _ _
    (c.cell_of.ensures.0 ∙ c.first_starts-starts.ensures.time _ step.processor)
    c.run_time-n.ensures.0 c.finish_of-x.ensures.0 c.unless_stopped-y.ensures.0 c.unless_stopped-y.ensures.1)

pub put_ends-requires : goal.put_ends-requires
put_ends-requires c =
    let p = c.requires in
    let (job, held, room, t, ends) = line_row c.loop-c.invariant c.row_at-a.ensures p.1 in
    (job, held, room, omega (arith, sizes p.2.standing.job, t), ends)

pub returns : goal.returns
returns c =
    let p = c.requires in
    let l = c.loop-c.invariant in
    let (r, q) = line_done l (omega arith) in
    (r, q, line_ended l c.row_at-a.ensures p.1 c.put_ends.ensures)
