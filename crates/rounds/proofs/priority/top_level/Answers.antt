use Rattle.lists.proofs.Prelude.{◌≡◌, refl, ap, ap₂, ◌∙◌, max, arith, tick, later}
use Rattle.orders.proofs.Walk.{pass_first, pass_at, pass_on}
use Rattle.jobs.proofs.Held.{sizes, enters_run}
use Rattle.rounds.proofs.Walks.{run_part}
use Rattle.rounds.proofs.TimeLaws.{feeds, gather_none, gather_next}
use Rattle.rounds.proofs.TopLaws.{spreads, feeds_sends, top_most_lem, top_one, top_scaled}
use Rattle.rounds.proofs.priority.top_level.Goals as goal

pub loop-cell-init : goal.loop-cell-init
loop-cell-init c =
    let r = run_part (enters_run c.requires.1 c.requires.2 c.entering-run.ensures) in
    (pass_first r, omega arith, gather_none (spreads c.args.house.capacity c.args.house.mem.now) _ _)

pub entering-edge-requires : goal.entering-edge-requires
entering-edge-requires c =
    let (h, _, _, predecessors, _) = c.requires in
    (h.1.job, feeds c.args.t h.1 predecessors (pass_at c.loop-cell.invariant.0 c.loop-cell-test.true))

pub spread-requires : goal.spread-requires
spread-requires c =
    let (h, _, _, predecessors, far) = c.requires in
    let e = c.entering-edge.ensures in
    let f = feeds c.args.t h.1 predecessors (pass_at c.loop-cell.invariant.0 c.loop-cell-test.true) in
    (h.1.job, rw (e.row_of, e.volume_of) (feeds_sends h.1 h.2 far f))

pub loop-cell-preserved : goal.loop-cell-preserved
loop-cell-preserved c =
    let args = c.args in
    let loop = c.loop-cell in
    let (w, m, g) = loop.invariant in
    let e = c.entering-edge.ensures in
    let (y, n) = c.spread.ensures in
    let z : c.max-x.result ≡ max loop.x c.spread.result = omega (arith, c.max-x.ensures) in (
      pass_on w c.loop-cell-test.true _ refl,
      omega (arith, z),
      ap tick z ∙ ap₂ later g (rw (e.row_of, e.volume_of) at y) ∙ gather_next (spreads args.house.capacity args.house.mem.now) w _ refl,
    )

pub returns-then-m-eq1 : goal.returns-then-m-eq1
returns-then-m-eq1 c =
    let (w, m, g) = c.loop-cell.invariant in
    (top_one c.args.t c.requires.0.1.job w c.loop-cell-test.false g m c.if-m-eq1.true, omega (arith, m))

pub overflow_sub-result : goal.overflow_sub-result
overflow_sub-result c = omega (arith, (sizes c.requires.0.1.job).some_processor)

pub overflow_mul-result-2 : goal.overflow_mul-result-2
overflow_mul-result-2 c =
    omega (arith, top_most_lem c.requires.0.1.job _ c.loop-cell.invariant.1)

pub returns : goal.returns
returns c =
    let (w, m, g) = c.loop-cell.invariant in
    (top_scaled c.args.t c.requires.0.1.job w c.loop-cell-test.false g m c.if-m-eq1.false, top_most_lem c.requires.0.1.job _ m)
