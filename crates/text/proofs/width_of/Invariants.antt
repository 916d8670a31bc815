-- The search from d on gives the width.
use Rattle.lists.proofs.Prelude.{◌≡◌, ◌-◌, document01, width_from, width}
use Rattle.text.proofs.width_of.Given as goal

abbrev pub invariant-loop-d : goal.invariant-loop-d
invariant-loop-d l = width_from (document01.powers - l.d) l.d l.n ≡ width document01 l.n
