use Rattle.text.proofs.Refusals.{handed}
use Rattle.lines.proofs.LineLaws.{numbers_no, numbers_next}
use Rattle.lines.proofs.numbers.read_numbers.Goals as goal

pub returns-in_err-p : goal.returns-in_err-p
returns-in_err-p c =
    let number = c.in_ok-v.ensures.ok_part in
    let mark = c.read_fixed.ensures.result_value in
    rw (handed _ _ c.from_residual-in_err-p.ensures.1) (numbers_no c.loop-i.invariant c.loop-i-test.true _ c.read_number.ensures _ _ number _ _ mark c.mark_after.ensures _ c.in_err-p.was)

pub loop-i-preserved : goal.loop-i-preserved
loop-i-preserved c =
    let number = c.in_ok-v.ensures.ok_part in
    let mark = c.read_fixed.ensures.result_value in
    numbers_next c.loop-i.invariant c.loop-i-test.true _ c.read_number.ensures _ _ number _ _ mark c.mark_after.ensures _ c.in_ok-p.was c.requires
