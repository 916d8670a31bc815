use Rattle.lists.proofs.Prelude.{◌∙◌, ap, [], ◌∷◌, ℕ, ◌<◌, arith, length}
use Rattle.replicas.specs.Cells.{lines_of, twice}
use Rattle.replicas.proofs.ChunkLaws.{row_task, row_replicas}
use Rattle.replicas.proofs.TwiceLaws.{first_none, first_next, first_here}
use Rattle.replicas.proofs.twice.first_twice.Goals as goal

pub loop-row-init : goal.loop-row-init
loop-row-init c = first_none c.args.w c.args.lines.now

pub returns-then-has_twins : goal.returns-then-has_twins
returns-then-has_twins c =
    let lines = c.args.lines.now in
    let k = c.loop-row.row-index in
    let b : k < lines_of (length lines) = omega (arith, c.as_chunks.ensures.front_len, c.loop-row-test.true) in
    let part = row_replicas (lines_of (length lines)) k b lines c.as_chunks.ensures.front c.args.w c.requires in
    ap (λ (t : ℕ). t ∷ []) (row_task (lines_of (length lines)) k b lines c.as_chunks.ensures.front)
    ∙ first_here c.args.w lines k (lines_of (length lines)) b c.loop-row.invariant (c.if-has_twins.ensures ∙ ap twice part)

pub loop-row-preserved : goal.loop-row-preserved
loop-row-preserved c =
    let lines = c.args.lines.now in
    let k = c.loop-row.row-index in
    let b : k < lines_of (length lines) = omega (arith, c.as_chunks.ensures.front_len, c.loop-row-test.true) in
    let part = row_replicas (lines_of (length lines)) k b lines c.as_chunks.ensures.front c.args.w c.requires in
    first_next c.args.w lines k c.loop-row.invariant (c.if-has_twins.ensures ∙ ap twice part)
