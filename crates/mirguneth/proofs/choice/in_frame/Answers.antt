-- The working memory is one that the job fits.
use Rattle.lists.proofs.Prelude.{◌∙◌, ℕ, arith, length, length-replicate, replicate, document01}
use Rattle.heads.specs.Heads.{head_of}
use Rattle.heads.proofs.Capacity.{roomy_made}
use Rattle.jobs.proofs.Loads.{from_room}
use Rattle.mirguneth.proofs.choice.in_frame.Goals as goal

pub returns : goal.returns
returns g c =
    let (z, most, fits, cells, links) = c.requires in
    let size : ℕ = length (replicate {A = ℕ} g.row.CELLS 0) in
    let lent : ℕ = length (replicate {A = ℕ} g.row.LINK_CELLS 0) in
    let h = head_of c.args.job.head in
    let room = roomy_made c.args.capacity size lent h most (length-replicate g.row.CELLS 0 ∙ cells)
    (omega (arith, length-replicate {A = ℕ} g.row.LINK_CELLS 0, links)) fits in
    rw (from_room document01 c.args.capacity size lent h c.args.job.rest.now z room) at c.run.ensures
