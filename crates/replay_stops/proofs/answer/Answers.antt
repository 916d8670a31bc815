-- The R and L lines are printed, or the line of the refusal.
use Rattle.lists.proofs.Prelude.{arith, document01, replayed, replay_printed}
use Rattle.console.proofs.Shown.{shown_done, shown_refusal}
use Rattle.replay_stops.proofs.Longest.{all_fits, replay_printed_lem, printed_most}
use Rattle.replay_stops.proofs.answer.Goals as goal

pub returns-in-Ok : goal.returns-in-Ok
returns-in-Ok c =
    let job = c.args.job.now in
    let plan = c.args.plan.now in
    let stops = c.args.stops.now in
    let (value, holds, counted) = shown_done (replayed document01 job plan stops) (replay_printed job plan stops) _ _ (replay_printed_lem job plan stops)
    (omega (arith, printed_most job plan stops, c.requires)) _ (rw (all_fits job plan stops _ c.requires) at c.in-Ok.ensures.answered) in
    record { value = value; holds = holds; counted = counted }

pub returns-in-Err : goal.returns-in-Err
returns-in-Err c =
    let job = c.args.job.now in
    let plan = c.args.plan.now in
    let stops = c.args.stops.now in
    let (value, holds, counted) = shown_refusal (replayed document01 job plan stops) (replay_printed job plan stops) _ _ (replay_printed_lem job plan stops)
    (omega (arith, printed_most job plan stops, c.requires)) _ (rw (all_fits job plan stops _ c.requires) at c.in-Err.ensures.answered) _ _
    (rw c.from.ensures at c.write_refusal.ensures.value) (rw c.from.ensures at c.write_refusal.ensures.holds) in
    record { value = value; holds = holds; counted = counted }
