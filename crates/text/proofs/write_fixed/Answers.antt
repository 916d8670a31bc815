use Rattle.std.proofs.Common.{rules}
use Rattle.lists.proofs.Prelude.{◌∙◌, ◌+◌, arith, sym}
use Rattle.text.proofs.Writing.{copy_next, copy_end, written_fits}
use Rattle.text.proofs.write_fixed.Goals as goal

pub loop-i-preserved : goal.loop-i-preserved
loop-i-preserved c =
    let a = c.args in
    let l = c.loop-i in
    (search rules, copy_next l.out a.p.now _ (a.at + l.i) l.i l.invariant.1 _ (omega arith) c.loop-i-test.true (omega arith))

pub returns-clause-holds : goal.returns-clause-holds
returns-clause-holds c =
    let a = c.args in
    let l = c.loop-i in
    copy_end l.out a.p.now _ (a.at + l.i) l.i l.invariant.1 c.loop-i-test.false ∙ sym (written_fits a.out.now a.at a.p.now (omega arith))
