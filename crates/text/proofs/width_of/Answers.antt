use Rattle.lists.proofs.Prelude.{refl, width}
use Rattle.text.proofs.width_of.Goals as goal

pub loop-d-init : goal.loop-d-init
unfolding width
loop-d-init c = refl
