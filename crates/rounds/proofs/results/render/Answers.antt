use Rattle.lists.proofs.Prelude.{◌≡◌, arith, document01, nth}
use Rattle.printing.proofs.Rendering.{rendered_none, rendered_more}
use Rattle.rounds.proofs.ResultLaws.{tasks_none, tasks_next, replay_rendered}
use Rattle.rounds.proofs.results.render.Goals as goal

pub loop-t-init : goal.loop-t-init
loop-t-init c =
    let args = c.args in
    (omega arith, rw (tasks_none document01 args.house.capacity args.house.mem.now) (rendered_none args.out.now))

pub loop-t-preserved : goal.loop-t-preserved
loop-t-preserved c =
    let loop = c.loop-t in
    let args = c.args in (
      omega (arith, loop.invariant.0, c.task_line-at.ensures.value.1),
      rw (tasks_next document01 args.house.capacity args.house.mem.now loop.t)
          (rendered_more loop.invariant.1 _ c.task_line-at.new.out _ c.task_line-at.ensures.value.0 c.task_line-at.ensures.holds),
    )

pub returns : goal.returns
returns c =
    let loop = c.loop-t in
    let args = c.args in
    let e : loop.t ≡ nth args.house.mem.now 0 = omega (arith, loop.auto.t-end, c.loop-t-test.false) in
    replay_rendered document01 args.house.capacity args.house.mem.now c.makespans_of-end.result.lower c.makespans_of-end.ensures.0
    (rw e at loop.invariant.1) _ _ c.end_line.new.out c.place_in-p.ensures c.end_line.ensures.value.0
    c.end_line.ensures.holds
