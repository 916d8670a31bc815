-- The R lines of the tasks passed were rendered.
use Rattle.lists.proofs.Prelude.{◌≤◌, ◌*◌, document01}
use Rattle.printing.specs.Rendered.{Rendered}
use Rattle.rounds.proofs.ResultLaws.{task_lines}
use Rattle.rounds.proofs.results.render.Given as goal

abbrev pub invariant-loop-t : goal.invariant-loop-t
invariant-loop-t l = (l.at ≤ 35 * l.t) × Rendered (task_lines document01 l.house.capacity l.t l.house.mem.now) l.initial.out l.out l.at
