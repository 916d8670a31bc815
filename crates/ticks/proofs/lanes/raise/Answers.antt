use Rattle.std.proofs.Common.{rules}
use Rattle.ticks.proofs.LaneLaws.{lanes_none}
use native.Mathlib.Nat.{zero-add}
use Rattle.ticks.proofs.lanes.raise.Goals as goal

pub returns : goal.returns
returns c = c.merge.ensures _ _ (λ p z r b q. rw (zero-add p) (search rules)) (lanes_none _ _)
