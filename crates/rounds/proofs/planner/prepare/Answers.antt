-- Each table is as it was left when the next is filled.
use Rattle.lists.proofs.Prelude.{arith}
use Rattle.jobs.proofs.Held.{held_kept, links_kept}
use Rattle.rounds.proofs.OutsetLaws.{outset_kept, outset, outset_counts}
use Rattle.rounds.proofs.planner.prepare.Goals as goal

pub fill_largest_delays-requires : goal.fill_largest_delays-requires
fill_largest_delays-requires c = held_kept c.requires.0 c.fill_levels.ensures.0 (omega arith)

pub clear_tasks-requires : goal.clear_tasks-requires
clear_tasks-requires c =
    let (job, links) = c.requires in
    let levelled = c.fill_levels.ensures.0 in
    let spread = c.fill_largest_delays.ensures.0 in
    let h = held_kept job levelled (omega arith) in
    (held_kept h spread (omega arith), links_kept h spread (omega arith) (links_kept job levelled (omega arith) links))

pub returns : goal.returns
returns c =
    let h = c.requires.0 in
    let levelled = c.fill_levels.ensures in
    let spread = c.fill_largest_delays.ensures in
    let cleared = c.clear_tasks.ensures in
    (outset_kept h levelled spread cleared, outset h levelled spread cleared, outset_counts h levelled spread cleared)
