use Rattle.lists.proofs.Prelude.{◌≡◌, arith, document01, nth}
use Rattle.printing.proofs.Rendering.{rendered_more}
use Rattle.rounds.proofs.PlanTextLaws.{head_rendered, rows_more, plan_text_lem}
use Rattle.rounds.proofs.plan_text.render.Goals as goal

pub loop-k-init : goal.loop-k-init
loop-k-init c =
    let args = c.args in
    let h = head_rendered document01 args.capacity args.mem.now (omega arith) (omega arith) _ args.out.now _ _ c.plan_head.ensures
    c.line-at.ensures.value c.line-at.ensures.holds in
    (omega (arith, h.0), λ d r. r)

pub loop-k-preserved : goal.loop-k-preserved
loop-k-preserved c =
    let loop = c.loop-k in
    let args = c.args in (
      omega (arith, loop.invariant.0, c.row_line-at.ensures.value.1),
      λ d r. rw (rows_more document01 args.capacity args.mem.now loop.k)
          (rendered_more (loop.invariant.1 d r) _ c.row_line-at.new.out _ c.row_line-at.ensures.value.0 c.row_line-at.ensures.holds),
    )

pub returns : goal.returns
returns c =
    let loop = c.loop-k in
    let args = c.args in
    let e : loop.k ≡ nth args.mem.now 0 = omega (arith, loop.auto.k-end, c.loop-k-test.false) in
    let h = head_rendered document01 args.capacity args.mem.now (omega arith) (omega arith) _ args.out.now _ _ c.plan_head.ensures
    c.line-at.ensures.value c.line-at.ensures.holds in
    rw (plan_text_lem document01 args.capacity args.mem.now) (rw e at (loop.invariant.1 args.out.now h.1))
