use Rattle.lists.proofs.Prelude.{arith}
use Rattle.jobs.proofs.Held.{sizes}
use Rattle.rounds.proofs.RowSums.{row_in}
use Rattle.rounds.proofs.numbers.row_total.Goals as goal

pub number_at-a-requires : goal.number_at-a-requires
number_at-a-requires c = let pre = c.requires in (pre.0, pre.1, (sizes pre.0.1).some_processor)

pub returns : goal.returns
returns c =
    row_in c.args.mem.now c.requires.0.1 (omega arith) c.args.r _ c.total.result c.requires.1 c.number_at-a.ensures.0 c.total.ensures
