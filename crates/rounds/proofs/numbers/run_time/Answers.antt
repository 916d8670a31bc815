use Rattle.lists.proofs.Prelude.{sym}
use Rattle.jobs.proofs.Held.{run_in}
use Rattle.rounds.proofs.RowSums.{run_cell}
use Rattle.rounds.proofs.numbers.run_time.Goals as goal

pub returns : goal.returns
returns c =
    let (h, t, p) = c.requires in
    rw c.number_at.ensures.0 (sym (run_in _ _ _ t p), run_cell h.1 _ _ t p)
