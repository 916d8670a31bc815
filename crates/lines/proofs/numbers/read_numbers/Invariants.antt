use Rattle.lists.proofs.Prelude.{drop, document01, numbers}
use Rattle.lines.proofs.LineLaws.{NumbersUpTo}
use Rattle.lines.proofs.numbers.read_numbers.Given as goal

abbrev pub invariant-loop-i : goal.invariant-loop-i
invariant-loop-i l = NumbersUpTo document01 l.s l.k l.initial.vals (numbers document01 l.k (drop l.at l.s)) l.i l.vals l.p
