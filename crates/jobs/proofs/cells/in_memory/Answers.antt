-- A job whose head has passed its rule fits the memory of its capacity, and a larger one.
use Rattle.lists.proofs.Prelude.{arith}
use Rattle.heads.proofs.Capacity.{largest_fits, capacity_fits, fits_larger, fits_most}
use Rattle.heads.specs.Heads.{head_of}
use Rattle.heads.specs.Layout.{FitsIn}
use Rattle.jobs.proofs.cells.in_memory.Goals as goal

pub in_frame-requires-clause-admitted : goal.in_frame-requires-clause-admitted
in_frame-requires-clause-admitted c =
    let most = rw c.capacity_for.ensures at c.if-capacity_for-le8.true in
    let f : FitsIn 8 (head_of c.args.job.head) = fits_larger _ 8 (head_of c.args.job.head) most (capacity_fits _ largest_fits _ c.requires) in
    record { passed = c.requires; room = f.2; links_room = omega (arith, f.0, f.1) }

pub in_frame-requires-else-capacity_for-le8-clause-admitted : goal.in_frame-requires-else-capacity_for-le8-clause-admitted
in_frame-requires-else-capacity_for-le8-clause-admitted c =
    let f : FitsIn 32 (head_of c.args.job.head) = fits_most _ largest_fits _ c.requires in
    record { passed = c.requires; room = f.2; links_room = omega (arith, f.0, f.1) }
