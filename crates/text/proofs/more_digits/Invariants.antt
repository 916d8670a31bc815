-- The digits left to read, after those that were read, give the whole answer.
use Rattle.lists.proofs.Prelude.{◌≡◌, ◌<◌, ◌-◌, ◌^◌, drop, document01, digits}
use Rattle.text.proofs.more_digits.Given as goal

abbrev pub invariant-loop-i : goal.invariant-loop-i
invariant-loop-i l = (l.left < document01.digits) × (l.n < 10 ^ (document01.digits - l.left)) × (digits l.left l.n (drop l.i l.s) ≡ digits l.room l.value (drop l.at l.s))
