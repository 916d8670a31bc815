use Rattle.lists.proofs.Prelude.{sym}
use Rattle.jobs.proofs.Held.{delay_in}
use Rattle.rounds.proofs.RowSums.{delay_cell}
use Rattle.rounds.proofs.numbers.delay.Goals as goal

pub returns : goal.returns
returns c =
    let (h, p, q) = c.requires in
    rw c.number_at.ensures.0 (sym (delay_in _ _ _ p q), delay_cell h.1 _ _ p q)
