-- Both ends are small, since each time of the line is.
use Rattle.lists.proofs.Prelude.{true, false}
use Rattle.rounds.proofs.CastLaws.{choice_small}
use Rattle.rounds.proofs.times.put_ends.Goals as goal

pub lane_of-requires : goal.lane_of-requires
lane_of-requires c = choice_small c.requires.1 false c.ends_in-e.ensures.0

pub lane_of-requires-2 : goal.lane_of-requires-2
lane_of-requires-2 c = choice_small c.requires.1 true c.ends_in-e.ensures.1
