use Rattle.lists.proofs.Prelude.{arith, document01}
use Rattle.printing.proofs.WriteLaws.{few_counted}
use Rattle.replicas.proofs.ResultLaws.{result_tick}
use Rattle.replicas.proofs.result_line.Goals as goal

pub returns-clause-value : goal.returns-clause-value
returns-clause-value c =
    rw (result_tick document01 _ _ _ c.if-first-eq-NEVER.false)
    (few_counted document01 (omega arith) _ _ 35 _ (omega arith) (omega arith) c.line.ensures.value)
