-- The digits left to store give the whole answer.
use Rattle.lists.proofs.Prelude.{◌≡◌, length}
use Rattle.text.proofs.Writing.{stored}
use Rattle.text.proofs.write_digits.Given as goal

abbrev pub invariant-loop-k : goal.invariant-loop-k
invariant-loop-k l = (length l.out ≡ length l.initial.out) × (stored l.out l.at l.k l.m ≡ stored l.initial.out l.at l.d l.n)
