use Rattle.lists.proofs.Prelude.{◌+◌, ◌-◌, arith}
use Rattle.orders.proofs.Walk.{pass_none, pass_last}
use Rattle.jobs.proofs.Held.{links_kept}
use Rattle.lists.proofs.Kept.{kept_all}
use Rattle.rounds.proofs.Walks.{leaves_run}
use Rattle.rounds.proofs.Drawing.{drawn_choice}
use Rattle.rounds.proofs.ReleaseLaws.{release_done, release_asks, release_next}
use Rattle.rounds.proofs.planner.release.Goals as goal

pub loop-k-init : goal.loop-k-init
loop-k-init c =
    let p = c.requires in
    let (r, m) = leaves_run p.4 p.3 c.edges_at-g.ensures c.leaving-run.ensures in
    (record { walk = pass_last r; within = m; kept = kept_all; ranked = rw r.edges p.1 }, p.2)

pub unblock-requires : goal.unblock-requires
unblock-requires c =
    let p = c.requires in
    let l = c.loop-k in
    let j = c.edges_at-g.result + (l.k - 1) in
    let (i, s) = p.0 in
    let (r, f) = l.invariant in
    ((i, drawn_choice r.kept s), release_asks s r j (omega arith) c.edge_to-u.ensures.0, f, links_kept s.standing.job r.kept (omega arith) p.4)

pub loop-k-preserved : goal.loop-k-preserved
loop-k-preserved c =
    let l = c.loop-k in
    let j = c.edges_at-g.result + (l.k - 1) in
    let (x, f) = c.unblock.ensures in
    let s = c.requires.0.1 in
    (release_next s l.invariant.0 j (omega arith) c.edge_to-u.ensures.0 x, f)

pub returns : goal.returns
returns c =
    let (r, f) = c.loop-k.invariant in
    (r.kept, release_done r.ranked (pass_none _ _ _ (omega arith)), f)
