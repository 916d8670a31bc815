use Rattle.lists.proofs.Prelude.{sym, arith, document01, never, result_line}
use Rattle.text.proofs.Writing.{written_unfit}
use Rattle.printing.proofs.WriteLaws.{width_few}
use Rattle.replicas.proofs.ResultLaws.{undone_length, undone_whole}
use Rattle.replicas.proofs.undone.undone_line.Goals as goal

pub overflow_add-n : goal.overflow_add-n
overflow_add-n c = grind (arith, width_few)

pub returns-then-out-n-clause-value : goal.returns-then-out-n-clause-value
returns-then-out-n-clause-value c = grind (arith, undone_length, width_few)

pub returns-then-out-n-clause-holds : goal.returns-then-out-n-clause-holds
returns-then-out-n-clause-holds c =
    let t = c.args.t in
    sym (written_unfit _ 0 (result_line document01 t never 0) (omega (arith, undone_length document01 t, c.width_of-n.ensures, c.if-out-n.true)))

pub returns-clause-value : goal.returns-clause-value
returns-clause-value c = grind (arith, undone_length, width_few)

pub returns-clause-holds : goal.returns-clause-holds
returns-clause-holds c =
    undone_whole document01 c.args.t c.args.out.now _ _ _ _ _ (omega (arith, c.width_of-n.ensures, c.if-out-n.false)) c.write_fixed-a.ensures.holds
    c.write_fixed-a.ensures.value c.write_number-b.ensures.holds c.write_number-b.ensures.value c.write_fixed.ensures.holds
