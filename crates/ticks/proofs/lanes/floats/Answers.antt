use Rattle.lists.proofs.Prelude.{refl, ℕ, arith, nth}
use lib.Ieee.{Float}
use Rattle.std.proofs.Common.{rules}
use Rattle.ticks.specs.Floats.{whole}
use Rattle.ticks.proofs.LaneLaws.{lanes_made, given_at}
use Rattle.ticks.proofs.lanes.floats.Goals as goal

pub returns : goal.returns
returns c =
    let made = c.from_fn.ensures.items in
    let h : ℕ → Float = λ p. whole (nth c.args.ticks.now p) in
    lanes_made _ _ _ 16 made.long refl (λ p b. given_at _ _ h (λ i y q k. search rules) _ 16 0 made.each p (omega arith) b)
