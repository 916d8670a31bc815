-- The bytes left to write give the whole answer.
use Rattle.lists.proofs.Prelude.{◌≡◌, ◌+◌, length, drop}
use Rattle.lists.specs.Over.{over}
use Rattle.text.proofs.write_fixed.Given as goal

abbrev pub invariant-loop-i : goal.invariant-loop-i
invariant-loop-i l = (length l.out ≡ length l.initial.out) × (over l.out (l.at + l.i) (drop l.i l.p) ≡ over l.initial.out l.at l.p)
