use Rattle.lists.proofs.Prelude.{sym, ap, ◌∙◌, arith, length, document01}
use Rattle.lists.specs.Over.{over}
use Rattle.lists.proofs.Over.{over_nil}
use Rattle.printing.proofs.WriteLaws.{text_end, turn}
use Rattle.printing.proofs.writer.write_numbers.Goals as goal

pub bounds-out-p : goal.bounds-out-p
bounds-out-p c =
    let l = c.loop-i in
    let s = c.args.vals.now in
    omega (arith, turn document01 s l.i c.loop-i-test.true l.out l.p (omega arith) _ _ c.write_number-p.ensures.holds c.write_number-p.ensures.value)

pub loop-i-preserved : goal.loop-i-preserved
loop-i-preserved c =
    let l = c.loop-i in
    let s = c.args.vals.now in
    let t = turn document01 s l.i c.loop-i-test.true l.out l.p (omega arith) _ _ c.write_number-p.ensures.holds
    c.write_number-p.ensures.value in
    (t.0 ∙ l.invariant.0, t.2 c.mark_after.result c.mark_after.ensures ∙ l.invariant.1)

pub returns : goal.returns
returns c =
    let s = c.args.vals.now in let l = c.loop-i in
    let e = text_end document01 s l.i (omega arith) in
    (omega (arith, ap length e), sym (over_nil l.out l.p) ∙ ap (over l.out l.p) (sym e) ∙ l.invariant.1)
