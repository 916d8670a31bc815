-- A tick is a whole number that a signed cell holds, and a float.
use Rattle.lists.proofs.Prelude.{◌≡◌, ◌≤◌, arith, document01}
use mir.Syntax.{w64}
use mir.Val.{to_z}
use mir.Facts.{to_z-of_z}
use lib.IntN.{pos}
use Rattle.ticks.proofs.HeldLaws.{whole_holds, never_holds}
use Rattle.rounds.proofs.TimeLaws.{time_tick, small_tick}
use Rattle.rounds.proofs.times.lane_of.Goals as goal

pub returns-then-x-eq-NEVER : goal.returns-then-x-eq-NEVER
returns-then-x-eq-NEVER c = rw (c.no_time.ensures, c.if-x-eq-NEVER.true) never_holds

pub returns : goal.returns
returns c =
    let most : c.args.x ≤ document01.tick = small_tick document01.tick _ c.if-x-eq-NEVER.false c.requires in
    let signed : to_z w64 c.args.x ≡ pos c.args.x = to_z-of_z {w = w64} {z = pos c.args.x} (record { sfits = omega (arith, most) }) in
    rw (signed, time_tick _ c.if-x-eq-NEVER.false) (whole_holds _ document01.tick (omega arith) most)
