use Rattle.lists.proofs.Prelude.{◌+◌, arith, largest_delay}
use Rattle.heads.specs.Layout.{largest_delay_at}
use Rattle.jobs.specs.Held.{job_in}
use Rattle.jobs.proofs.Held.{sizes, job_kept, held_kept}
use Rattle.lists.proofs.Kept.{kept_set}
use Rattle.lists.proofs.Upward.{table_more}
use Rattle.rounds.proofs.priority.fill_largest_delays.Goals as goal

pub largest_delay-requires : goal.largest_delay-requires
largest_delay-requires c =
    let loop = c.loop-p in
    ((_, held_kept c.requires loop.invariant.0 (omega arith)), omega (arith, c.loop-p-test.true, loop.invariant.0.before 1 (omega arith)))

pub loop-p-preserved : goal.loop-p-preserved
loop-p-preserved c =
    let s = sizes c.requires in
    let loop = c.loop-p in
    let args = c.args in
    let new = job_kept c.requires loop.invariant.0 (omega arith) in (
      kept_set (largest_delay_at args.capacity + loop.p) c.largest_delay.result loop.invariant.0 (omega arith) (omega arith),
      table_more (largest_delay (job_in args.mem.now)) loop.mem (largest_delay_at args.capacity) loop.p c.largest_delay.result
          loop.invariant.1 (omega arith) (rw new at c.largest_delay.ensures),
    )

pub returns : goal.returns
returns c =
    let (kept, held) = c.loop-p.invariant in
    (kept, λ p h. rw (job_kept c.requires kept (omega arith)) (held p (omega (arith, kept.before 1 (omega arith)))))
