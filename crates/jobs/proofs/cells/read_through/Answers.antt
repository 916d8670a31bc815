-- What load_rest left in the memory is copied to the front.
use native.Mathlib.Nat.{zero-add}
use Rattle.lists.proofs.Prelude.{◌≡◌, ℕ, length, take, length-take-le}
use Rattle.lists.specs.Over.{over}
use Rattle.jobs.proofs.AnswerLaws.{loaded_fits, answer_done}
use Rattle.jobs.proofs.cells.read_through.Goals as goal

pub returns : goal.returns
unfolding over
returns c =
    let n : ℕ = c.in_ok-n.n in
    let loaded = c.in_ok-n.ensures in
    let m : length (take n c.load_rest.new.mem) ≡ n = length-take-le n _ (loaded_fits _ _ _ n loaded) in
    rw (c.copy_from_slice.ensures.after) (simp (zero-add, m) at (answer_done _ c.args.cells.now n _ _ loaded c.if-cells-n.false))
