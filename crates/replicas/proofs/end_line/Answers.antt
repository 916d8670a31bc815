use Rattle.lists.proofs.Prelude.{arith, document01}
use Rattle.printing.proofs.WriteLaws.{few_counted}
use Rattle.replicas.proofs.ResultLaws.{end_tick}
use Rattle.replicas.proofs.end_line.Goals as goal

pub returns-clause-value : goal.returns-clause-value
returns-clause-value c =
    rw (end_tick document01 _ c.if-time-eq-NEVER.false) (few_counted document01 (omega arith) _ _ 13 _ (omega arith) (omega arith) c.line.ensures.value)
