use Rattle.lists.proofs.Prelude.{arith, add-one}
use Rattle.jobs.proofs.Held.{sizes, links_kept}
use Rattle.rounds.proofs.EndLaws.{ended_none}
use Rattle.rounds.proofs.RoundLaws.{round_first, round_asks, round_next, round_done}
use Rattle.rounds.proofs.replaying.run_lines.Goals as goal

pub loop-k-init : goal.loop-k-init
loop-k-init c = (round_first c.args.stops.now c.default-ready.ensures c.requires.0, ended_none c.requires.4)

pub run_line-ready-requires : goal.run_line-ready-requires
run_line-ready-requires c =
    let (runs, ended) = c.loop-k.invariant in
    let p = c.requires in
    let z = sizes p.0.job in
    let (delays, a, f) = round_asks c.loop-k.k runs p.0 p.1 c.fill.ensures (omega arith) in
    (delays, ended, runs.running, a, f, p.2, links_kept p.0.job runs.retimed.outside (omega arith) p.3)

pub loop-k-preserved : goal.loop-k-preserved
loop-k-preserved c =
    let pre = c.requires in
    let z = sizes pre.0.job in
    let l = c.loop-k in
    let run-line = c.run_line-ready.ensures in
    (round_next l.k l.invariant.0 pre.0 pre.1 (omega arith) run-line.0 run-line.1, rw (add-one l.k) run-line.2)

pub returns : goal.returns
returns c =
    let pre = c.requires in
    let z = sizes pre.0.job in
    round_done c.loop-k.k c.loop-k.invariant.0 pre.0 pre.1 (omega arith)
