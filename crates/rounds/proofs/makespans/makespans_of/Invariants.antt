-- lower and upper are the largest ends of the tasks passed.
use Rattle.lists.proofs.Prelude.{true, false}
use Rattle.rounds.proofs.MakespanLaws.{Ending}
use Rattle.rounds.proofs.makespans.makespans_of.Given as goal

abbrev pub invariant-loop-t : goal.invariant-loop-t
invariant-loop-t l = Ending l.house.capacity false l.house.mem.now l.lower l.t × Ending l.house.capacity true l.house.mem.now l.upper l.t
