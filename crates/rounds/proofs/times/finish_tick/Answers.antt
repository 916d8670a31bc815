-- The start is a tick of 32 bits, and so is the finish.
use Rattle.lists.proofs.Prelude.{arith}
use Rattle.rounds.proofs.CastLaws.{short_cast}
use Rattle.rounds.proofs.times.finish_tick.Goals as goal

pub float_to_int-result : goal.float_to_int-result
float_to_int-result c = (short_cast c.requires.0 c.requires.1).0

pub overflow_add-result : goal.overflow_add-result
overflow_add-result c = omega (arith, (short_cast c.requires.0 c.requires.1).2, c.requires.2)

pub returns : goal.returns
returns c = rw (short_cast c.requires.0 c.requires.1).1
