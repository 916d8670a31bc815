-- The row's sum, times the other processors.
use Rattle.lists.proofs.Prelude.{◌∙◌, arith}
use Rattle.jobs.proofs.Held.{sizes}
use Rattle.rounds.proofs.RowSums.{scaled_one, scaled_more}
use Rattle.rounds.proofs.levels.scaled_run.Goals as goal

pub returns-then-m-eq1 : goal.returns-then-m-eq1
returns-then-m-eq1 c =
    c.row_total-x.ensures.0 ∙ scaled_one c.args.mem.now c.requires.0.1 c.args.t c.requires.1 c.if-m-eq1.true

pub overflow_sub-result : goal.overflow_sub-result
overflow_sub-result c = let s = sizes c.requires.0.1 in omega arith

pub returns : goal.returns
returns c =
    rw c.row_total-x.ensures.0 (scaled_more c.args.mem.now c.requires.0.1 c.args.t c.requires.1 c.if-m-eq1.false)
