use Rattle.lists.proofs.Prelude.{◌-◌, arith, drop, nth, document01}
use Rattle.orders.specs.Links.{order_at}
use Rattle.rounds.proofs.Walks.{task_of_order}
use Rattle.rounds.proofs.LevelLaws.{FillStep, filling_step, filling_done}
use Rattle.rounds.proofs.levels.fill_levels.Goals as goal
use Rattle.rounds.proofs.levels.fill_levels.Goals.{After-task_at-t}

-- What is asked for the next task of the order.
step : (c : After-task_at-t) → let a = c.args in
    FillStep document01 a.capacity (drop (order_at (nth a.mem.now 0) 0) a.links.now) a.mem.now c.loop-i.mem a.links.now c.loop-i.i c.task_at-t.result
step c =
    let pre = c.requires in
    let l = c.loop-i in
    let h = c.loop-i-test.true in
    rw (c.task_at-t.ensures, task_of_order pre.1 {t = l.i - 1} (omega (arith, h, l.auto.i)))
    (filling_step pre.0 pre.1.order l.invariant h l.auto.i pre.1)

pub scaled_run-x-requires : goal.scaled_run-x-requires
scaled_run-x-requires c =
    let s = step (goal.at.scaled_run-x-requires c).After-task_at-t in
    ((_, s.held), s.below)

pub longest_after-requires : goal.longest_after-requires
longest_after-requires c =
    let s = step (goal.at.longest_after-requires c).After-task_at-t in
    (s.held, s.linked, s.below, rw s.job c.total_delay-total.ensures, s.levels)

pub overflow_add-mem : goal.overflow_add-mem
overflow_add-mem c =
    let s = step (goal.at.overflow_add-mem c).After-task_at-t in
    omega (arith, c.scaled_run-x.ensures, s.run, c.longest_after.ensures.1)

pub overflow_add-mem-in-loop-i : goal.overflow_add-mem-in-loop-i
overflow_add-mem-in-loop-i c =
    let s = step (goal.at.overflow_add-mem-in-loop-i c).After-task_at-t in
    omega (arith, s.place, c.requires.0.size, c.well_formed.0)

pub offset_bounds-mem-level : goal.offset_bounds-mem-level
offset_bounds-mem-level c =
    let s = step (goal.at.offset_bounds-mem-level c).After-task_at-t in
    omega (arith, s.place, c.requires.0.size, c.well_formed.0)

pub bounds-mem-level : goal.bounds-mem-level
bounds-mem-level c =
    let s = step (goal.at.bounds-mem-level c).After-task_at-t in
    omega (arith, s.place, c.requires.0.size, c.loop-i.auto.mem)

pub loop-i-preserved : goal.loop-i-preserved
loop-i-preserved c =
    let s = step (goal.at.loop-i-preserved c).After-task_at-t in
    s.more _ _ c.scaled_run-x.ensures c.longest_after.ensures.0

pub returns : goal.returns
returns c =
    let pre = c.requires in filling_done pre.0 pre.1.order c.loop-i.invariant (omega arith)
