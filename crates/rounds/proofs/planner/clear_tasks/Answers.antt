use Rattle.lists.proofs.Prelude.{◌≡◌, refl, sym, ◌<◌, ◌*◌, arith, length}
use Rattle.orders.proofs.Walk.{pass_length}
use Rattle.heads.specs.Layout.{memory_size}
use Rattle.jobs.specs.Held.{job_in}
use Rattle.jobs.proofs.Held.{sizes, enters_run}
use Rattle.rounds.proofs.OutsetLaws.{cleared_more, cleared_kept}
use Rattle.rounds.proofs.planner.clear_tasks.Goals as goal

pub overflow_sub-mem : goal.overflow_sub-mem
overflow_sub-mem c = omega (arith, (enters_run c.requires.1 c.loop-t-test.true c.entering-run.ensures).rises)

pub loop-t-preserved : goal.loop-t-preserved
loop-t-preserved c =
    let l = c.loop-t in
    let s = sizes c.requires.0 in
    let h : l.t < 8 * c.args.capacity = omega (arith, c.loop-t-test.true, s.tasks_most) in
    let z : length l.mem ≡ memory_size c.args.capacity = omega (arith, l.invariant.0.size, s.size) in
    let r = enters_run c.requires.1 c.loop-t-test.true c.entering-run.ensures in (
      cleared_kept _ (job_in c.args.mem.now) l.mem l.t _ _ h z _ l.invariant.0,
      cleared_more _ _ l.mem l.t _ _ h z (sym (pass_length r)) refl l.invariant.1,
    )
