-- Each line is read and its rule tried; its stop is put in the processor's cell.
use Rattle.text.proofs.Refusals.{handed}
use Rattle.lists.proofs.Prelude.{refl, sym, ◌∙◌, arith}
use Rattle.text.specs.Suited.{suited}
use Rattle.stops.proofs.StopLaws.{stops_none, stops_end, stops_bad, stops_no, stops_shorter, stops_next}
use Rattle.stops.proofs.stops.read_stop_lines.Goals as goal

pub loop-reader-init : goal.loop-reader-init
loop-reader-init c = record { size = refl; upto = stops_none _ _ _ _ c.requires.0 c.requires.1 }

pub returns-in_err-line : goal.returns-in_err-line
returns-in_err-line c = λ j e.
    let loop = c.loop-reader.invariant in
    rw (handed _ _ c.from_residual.ensures.1) (stops_bad loop.upto (sym c.loop-reader-test.ensures) _ (omega (arith, loop.size)) _ c.in_err-line.ensures.read j e)

pub returns-in_err-check_stop : goal.returns-in_err-check_stop
returns-in_err-check_stop c = λ j e.
    let loop = c.loop-reader.invariant in
    rw (handed _ _ c.from_residual-in_err-check_stop.ensures.1)
    (stops_no loop.upto (sym c.loop-reader-test.ensures) _ (omega (arith, loop.size)) c.line.new.vals _ c.in_ok-line.ensures.read _
    c.in_err-check_stop.ensures.0 j e)

pub loop-reader-smaller : goal.loop-reader-smaller
loop-reader-smaller c =
    let loop = c.loop-reader.invariant in
    stops_shorter loop.upto (sym c.loop-reader-test.ensures) _ (omega (arith, loop.size)) c.line.new.vals _ c.in_ok-line.ensures.read

pub loop-reader-preserved : goal.loop-reader-preserved
loop-reader-preserved c =
    let loop = c.loop-reader.invariant in
    let (f, within) = c.in_ok-check_stop.ensures in
    let (k, t, o) = within refl in
    let next = stops_next loop.upto (sym c.loop-reader-test.ensures) _ (omega (arith, loop.size)) c.line.new.vals _ c.in_ok-line.ensures.read in
    record { size = c.line.auto.vals ∙ loop.size; upto = next suited k t o f }

pub returns : goal.returns
returns c = stops_end c.loop-reader.invariant.upto (sym c.loop-reader-test.ensures)
