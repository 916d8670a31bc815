-- The run of the edges that leave a task is empty exactly if it is an exit task.
use Rattle.lists.proofs.Prelude.{refl, true, false, arith}
use Rattle.jobs.proofs.Held.{sizes}
use Rattle.rounds.proofs.Walks.{leaves_run}
use Rattle.rounds.proofs.MakespanLaws.{cells_of_task, exit_makespan, exit_other}
use Rattle.rounds.proofs.makespans.exit_ends.Goals as goal

pub returns-then-run : goal.returns-then-run
returns-then-run c =
    let t = c.args.t in
    let pre = c.requires in
    let run = (leaves_run pre.1 pre.2 refl c.leaving-run.ensures).0 in
    (exit_other false pre.0 t pre.2 run (omega (arith, c.if-run.true)), exit_other true pre.0 t pre.2 run (omega (arith, c.if-run.true)))

pub row_of-requires : goal.row_of-requires
row_of-requires c =
    let pre = c.requires in
    let (a, b, _) = cells_of_task pre.0 c.args.t pre.2 in (omega (arith, sizes pre.0.job, pre.2), a, omega (arith, b))

pub returns : goal.returns
returns c =
    let t = c.args.t in
    let pre = c.requires in
    let run = (leaves_run pre.1 pre.2 refl c.leaving-run.ensures).0 in
    let (first, last) = rw c.row_of.ensures at c.ends_in.ensures in
    (exit_makespan false pre.0 t pre.2 run _ (omega (arith, c.if-run.false)) first, exit_makespan true pre.0 t pre.2 run _ (omega (arith, c.if-run.false)) last)
