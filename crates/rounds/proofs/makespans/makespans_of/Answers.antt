use Rattle.lists.proofs.Prelude.{true, false, arith}
use Rattle.rounds.proofs.MakespanLaws.{ending_first, ending_next, ending_done}
use Rattle.rounds.proofs.makespans.makespans_of.Goals as goal

pub loop-t-init : goal.loop-t-init
loop-t-init c =
    let house = c.args.house in
    (ending_first house.capacity false house.mem.now, ending_first house.capacity true house.mem.now)

pub loop-t-preserved : goal.loop-t-preserved
loop-t-preserved c =
    let house = c.args.house in
    let l = c.loop-t in
    let e = c.exit_ends-e in (
      ending_next house.capacity false house.mem.now l.lower l.t e.result.first c.max-lower.result
          c.loop-t-test.true e.ensures.0 (omega (arith, c.max-lower.type_inv)) c.max-lower.ensures l.invariant.0,
      ending_next house.capacity true house.mem.now l.upper l.t e.result.last c.max-upper.result
          c.loop-t-test.true e.ensures.1 (omega (arith, c.max-upper.type_inv)) c.max-upper.ensures l.invariant.1,
    )

pub returns : goal.returns
returns c =
    let house = c.args.house in
    let l = c.loop-t in
    let end = c.loop-t-test.false in (
      ending_done house.capacity false house.mem.now l.lower l.t end l.invariant.0,
      ending_done house.capacity true house.mem.now l.upper l.t end l.invariant.1,
    )
