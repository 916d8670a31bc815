use Rattle.lists.proofs.Prelude.{arith}
use Rattle.jobs.proofs.Held.{sizes}
use Rattle.rounds.proofs.CheckLaws.{doubled_said}
use Rattle.rounds.proofs.checker.doubled.Goals as goal

pub row_at-first-requires : goal.row_at-first-requires
row_at-first-requires c = let s = sizes c.requires.standing.job in omega (arith, s.size)

pub row_at-end-requires : goal.row_at-end-requires
row_at-end-requires c = let s = sizes c.requires.standing.job in omega (arith, s.size, s.tasks_most.1)

pub overflow_add-w : goal.overflow_add-w
overflow_add-w c = let s = sizes c.requires.standing.job in omega (arith, s)

pub slice_bounds-doubled_task-end : goal.slice_bounds-doubled_task-end
slice_bounds-doubled_task-end c = let s = sizes c.requires.standing.job in omega (arith, s.size, s.tasks_most.1, c.row_at-end.ensures)

pub returns : goal.returns
returns c =
    doubled_said c.requires _ _ c.row_at-first.ensures
    c.row_at-end.ensures c.doubled_task.result c.doubled_task.ensures
