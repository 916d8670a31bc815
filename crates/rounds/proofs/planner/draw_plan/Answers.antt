-- The table of ends has room for two times of each task.
use Rattle.std.proofs.Common.{rules}
use Rattle.lists.proofs.Prelude.{arith}
use Rattle.jobs.proofs.Held.{sizes, links_kept}
use Rattle.lists.proofs.Kept.{kept_then}
use Rattle.rounds.proofs.planner.draw_plan.Goals as goal

pub with_ends-requires : goal.with_ends-requires
with_ends-requires c =
    let (job, links) = c.requires in
    let (k, drawn, ranked) = c.prepare.ensures in
    let z = sizes drawn.standing.job in
    let kept = links_kept job k (omega arith) links in
    (omega arith, λ ends room. search rules)

pub returns : goal.returns
returns c =
    let w = sizes c.requires.0 in
    let k = c.prepare.ensures.0 in
    (kept_then k (search rules), rw (← k.before 0 (omega arith)) (search rules))
