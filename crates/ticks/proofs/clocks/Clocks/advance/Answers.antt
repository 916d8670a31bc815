use Rattle.lists.proofs.Prelude.{◌≡◌, refl, ◌∙◌, ap, ◌/◌, arith, length, ℕ, ◌<◌, ◌*◌, ◌+◌, get_or, [], nth}
use Rattle.lists.proofs.Chunks.{chunk_cell}
use Rattle.ticks.specs.Lanes.{advanced}
use Rattle.ticks.proofs.LaneLaws.{advanced_yes, advanced_no}
use Rattle.ticks.proofs.clocks.Clocks.advance.Goals.{then-processor-lt16, else-processor-lt16}
use Rattle.ticks.proofs.clocks.Clocks.advance.Goals as goal

pub loop-processor-init : goal.loop-processor-init
unfolding advanced
loop-processor-init c = (refl, refl)

pub loop-processor-preserved : goal.loop-processor-preserved
loop-processor-preserved c =
    let l = c.loop-processor in
    let n = l.processor-index in
    let b : n < length c.args.cells.now / 3 = omega (arith, c.as_chunks.ensures.front_len) in
    let cell : (j : ℕ) → j < 3 → nth (get_or c.as_chunks.result.0.now n []) j ≡ nth c.args.cells.now (3 * n + j) =
    λ j h. rw c.as_chunks.ensures.front (chunk_cell 3 (length c.args.cells.now / 3) n j c.args.cells.now b h) in
    let p = cell 0 (omega arith) in
    elim c.if-processor-lt16.branch [
      | then-processor-lt16 w ↦ (
        ap (λ (s : _). s.early) w.self-is ∙ advanced_yes 1 _ _ n p (cell 1 (omega arith)) w.if-processor-lt16.true l.invariant.0,
        ap (λ (s : _). s.late) w.self-is ∙ advanced_yes 2 _ _ n p (cell 2 (omega arith)) w.if-processor-lt16.true l.invariant.1,
      )
      | else-processor-lt16 w ↦ (
        ap (λ (s : _). s.early) w.self-is ∙ advanced_no 1 _ _ n p w.if-processor-lt16.false l.invariant.0,
        ap (λ (s : _). s.late) w.self-is ∙ advanced_no 2 _ _ n p w.if-processor-lt16.false l.invariant.1,
      )
    ]

pub returns : goal.returns
returns c =
    let l = c.loop-processor in
    let e : l.processor-index ≡ length c.args.cells.now / 3 = omega (arith, c.as_chunks.ensures.front_len) in
    record { early = rw e at l.invariant.0; late = rw e at l.invariant.1 }
