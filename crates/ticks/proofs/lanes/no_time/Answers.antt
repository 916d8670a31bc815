-- The literal's bits.
use Rattle.lists.proofs.Prelude.{refl}
use lib.Ieee.{of_bits}
use Rattle.ticks.proofs.lanes.no_time.Goals as goal

pub returns : goal.returns
unfolding of_bits
returns c = refl
