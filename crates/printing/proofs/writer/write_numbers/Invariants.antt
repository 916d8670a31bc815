-- What is yet to be written over the output gives the whole.
use Rattle.lists.proofs.Prelude.{◌≡◌, ◌+◌, length, drop, document01, numbers_text}
use Rattle.lists.specs.Over.{over}
use Rattle.printing.proofs.writer.write_numbers.Given as goal

abbrev pub invariant-loop-i : goal.invariant-loop-i
invariant-loop-i l =
    (l.p + length (numbers_text document01 (drop l.i l.vals)) ≡ l.at + length (numbers_text document01 l.vals))
    × (over l.out l.p (numbers_text document01 (drop l.i l.vals)) ≡ over l.initial.out l.at (numbers_text document01 l.vals))
