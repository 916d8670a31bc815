use Rattle.lists.proofs.Prelude.{◌≡◌, ◌≤◌, ◌<◌, ◌-◌, ◌+◌, ◌^◌, drop, document01, digits}
use Rattle.lines.proofs.inner.more_digits.Given as goal

abbrev pub invariant-loop-i : goal.invariant-loop-i
invariant-loop-i l =
    (l.i ≤ document01.digits) × (l.acc < 10 ^ l.i)
    × (digits (document01.digits - l.i) l.acc (drop (l.at + l.i) l.s) ≡ digits (document01.digits - 1) l.first (drop (l.at + 1) l.s))
