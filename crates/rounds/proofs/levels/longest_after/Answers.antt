use Rattle.lists.proofs.Prelude.{◌≡◌, ap, ◌∙◌, ◌+◌, ◌*◌, max, arith, nth, outgoing, Time, tick, later, tick_of, document01}
use Rattle.heads.specs.Layout.{level_at}
use Rattle.orders.specs.Edges.{edge_in}
use Rattle.orders.proofs.Walk.{pass_first, pass_at, pass_on}
use Rattle.jobs.specs.Held.{job_in}
use Rattle.rounds.specs.Levels.{sent}
use Rattle.rounds.proofs.Walks.{leaves_run}
use Rattle.rounds.proofs.TimeLaws.{largest_ticks, gather_none, gather_next, gather_done}
use Rattle.rounds.proofs.LevelLaws.{Message, message}
use Rattle.rounds.proofs.levels.longest_after.Goals as goal
use Rattle.rounds.proofs.levels.longest_after.Goals.{In-loop-k}

pub loop-k-init : goal.loop-k-init
loop-k-init c =
    let r = (leaves_run c.requires.1 c.requires.2 c.edges_at-g.ensures c.leaving-run.ensures).0 in
    (pass_first r, omega arith, gather_none (λ e. tick (sent c.args.house.capacity c.args.house.mem.now e)) _ _)

-- What is asked for the next edge.
sending : (c : In-loop-k) → let a = c.args in
    Message document01 a.house.capacity a.total a.house.mem.now (edge_in (nth a.house.mem.now (c.edges_at-g.result + c.loop-k.k)))
sending c =
    let pre = c.requires in
    message pre.0 c.args.t pre.3 pre.4 _ (pass_at c.loop-k.invariant.0 (omega (arith, c.loop-k-test.true)))

pub overflow_mul-edge_volume : goal.overflow_mul-edge_volume
overflow_mul-edge_volume c =
    let here = sending (goal.at.overflow_mul-edge_volume c).In-loop-k in
    rw c.edge_volume.ensures (omega (arith, here.little))

pub bounds-mem-level : goal.bounds-mem-level
bounds-mem-level c =
    let here = sending (goal.at.bounds-mem-level c).In-loop-k in
    omega (arith, here.place, c.edge_to-to.ensures.0)

pub overflow_add-edge_volume : goal.overflow_add-edge_volume
overflow_add-edge_volume c =
    let here = sending (goal.at.overflow_add-edge_volume c).In-loop-k in
    rw (c.edge_volume.ensures, c.edge_to-to.ensures.0) (omega (arith, here.little, here.level))

pub loop-k-preserved : goal.loop-k-preserved
loop-k-preserved c =
    let h = sending (goal.at.loop-k-preserved c).In-loop-k in
    let a = c.args in
    let mem = a.house.mem.now in
    let (w, s, r) = c.loop-k.invariant in
    let z = sent a.house.capacity mem (edge_in (nth mem (c.edges_at-g.result + c.loop-k.k))) in
    let y : c.edge_volume.result * a.total + nth mem (level_at a.house.capacity + c.edge_to-to.result) ≡ z =
    rw (c.edge_volume.ensures, c.edge_to-to.ensures.0) h.sent_same in
    let x : c.max-x.result ≡ max c.loop-k.x z = omega (arith, c.max-x.ensures, y) in (
      pass_on w (omega (arith, c.loop-k-test.true)) _ (omega arith),
      omega (arith, x, h.little, h.level, h.sent_same, s),
      ap tick x ∙ ap (λ (u : Time). later u (tick z)) r ∙ gather_next (λ e. tick (sent a.house.capacity mem e)) w _ (omega arith),
    )

pub returns : goal.returns
returns c =
    let a = c.args in
    let (w, m, g) = c.loop-k.invariant in
    let f = sent a.house.capacity a.house.mem.now in
    let done = gather_done (λ e. tick (f e)) w (omega (arith, c.loop-k-test.false)) in
    (ap tick_of (g ∙ done ∙ largest_ticks f (outgoing (job_in a.house.mem.now) a.t)), omega (arith, m))
