-- None of the lines passed has neighbours on one processor.
use Rattle.lists.proofs.Prelude.{◌≡◌, []}
use Rattle.replicas.specs.Cells.{first_twice}
use Rattle.replicas.proofs.twice.first_twice.Given as goal

abbrev pub invariant-loop-row : goal.invariant-loop-row
invariant-loop-row l = first_twice l.w l.row-index l.lines ≡ []
