-- The round of the definition stands in the memory, and its text is written if it fits.
use Rattle.std.proofs.Common.{rules}
use Rattle.lists.proofs.Prelude.{arith}
use Rattle.jobs.specs.Held.{job_in}
use Rattle.jobs.proofs.Held.{processors_in}
use Rattle.rounds.proofs.AnswerLaws.{answered_err}
use Rattle.rounds.proofs.Longest.{answer_most, longest}
use Rattle.rounds.proofs.ReplayLaws.{run_asked, run_answer, run_refused}
use Rattle.rounds.proofs.tools.put_replay.Goals as goal

pub run_round-requires : goal.run_round-requires
run_round-requires c = let (h, l) = c.requires in
    (h.standing, h.facts.ordered, c.load_stops.auto.stops, l)

pub put_text-requires : goal.put_text-requires
put_text-requires c =
    let (h, l) = c.requires in
    let ready = run_asked h c.run_round.ensures l in search rules

pub returns : goal.returns
returns c =
    let d = c.args.mem.now in
    let ran = c.run_round.ensures in
    let most = answer_most (omega arith) ran.standing in
    run_answer c.requires.0 ran c.args.stops.now c.args.out.now _ _ _ c.load_stops.auto.stops (c.in_ok-load_stops.ensures (job_in d) (processors_in d))
    (c.put_text.ensures _ (λ x y at p. search rules) (omega (arith, most, longest)))

pub returns-in_err-load_stops : goal.returns-in_err-load_stops
returns-in_err-load_stops c =
    let d = c.args.mem.now in
    answered_err _ _ _ _ c.from_residual.ensures.1
    (run_refused c.args.capacity d c.load_stops.new.stops c.args.stops.now _ _ c.requires.0.standing.job (c.in_err-load_stops.ensures (job_in d) (processors_in d)))
