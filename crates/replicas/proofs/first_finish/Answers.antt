use Rattle.lists.proofs.Prelude.{sym, ◌∙◌, ap, arith, ◌/◌, ◌<◌, length}
use Rattle.replicas.specs.Cells.{replicas_of}
use Rattle.replicas.proofs.ChunkLaws.{replica_on, replica_early}
use Rattle.replicas.proofs.TwiceLaws.{least_none, least_sooner, least_stays}
use Rattle.replicas.proofs.first_finish.Goals as goal
use Rattle.replicas.proofs.first_finish.Goals.{then-time-first, else-time-first}

pub loop-processor-init : goal.loop-processor-init
loop-processor-init c = let (e, f) = least_none c.args.cells.now in (sym e, sym f)

pub loop-processor-preserved : goal.loop-processor-preserved
loop-processor-preserved c =
    let l = c.loop-processor in
    let cells = c.args.cells.now in
    let b : l.processor-index < replicas_of (length cells) = omega (arith, c.as_chunks.ensures.front_len) in
    let on = replica_on (length cells / 3) l.processor-index b cells c.as_chunks.ensures.front in
    let early = replica_early (length cells / 3) l.processor-index b cells c.as_chunks.ensures.front in
    elim c.if-time-first.branch [
      | then-time-first w ↦
          let (e, f) = least_sooner cells l.processor-index (rw (early, l.invariant.0) at w.if-time-first.true) in
          (ap (λ (x : _). x.time) w.first-is ∙ early ∙ e, ap (λ (x : _). x.processor) w.first-is ∙ on ∙ f)
      | else-time-first w ↦
          let (e, f) = least_stays cells l.processor-index (rw (early, l.invariant.0) at w.if-time-first.false) in
          (ap (λ (x : _). x.time) w.first-is ∙ l.invariant.0 ∙ e, ap (λ (x : _). x.processor) w.first-is ∙ l.invariant.1 ∙ f)
    ]
