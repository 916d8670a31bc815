use Rattle.lists.proofs.Prelude.{arith, true, false}
use Rattle.ticks.specs.Cells.{never_cell}
use Rattle.jobs.proofs.Held.{sizes}
use Rattle.rounds.proofs.TimeLaws.{none_late, none_early, later_cells, sooner_cells}
use Rattle.rounds.proofs.MakespanLaws.{chosen_first, chosen_next}
use Rattle.rounds.proofs.times.ends_in.Goals as goal

pub overflow_add-c-end : goal.overflow_add-c-end
overflow_add-c-end c = let s = sizes c.requires.0.1 in omega arith

pub loop-c-init : goal.loop-c-init
loop-c-init c =
    let x = c.args in (omega arith, omega arith, chosen_first false x.a x.mem.now never_cell none_early, chosen_first true x.a x.mem.now 0 none_late)

pub replica_at-r-requires : goal.replica_at-r-requires
replica_at-r-requires c = let s = sizes c.requires.0.1 in omega arith

pub loop-c-preserved : goal.loop-c-preserved
loop-c-preserved c =
    let a = c.args in
    let l = c.loop-c in
    let r = c.replica_at-r in
    let (first, last, low, high) = l.invariant in (
      omega arith,
      omega arith,
      chosen_next false a.a a.mem.now l.c r.result.early l.first _ r.ensures.1 low
          (sooner_cells never_cell r.result.early l.first _ (omega arith) first (omega (arith, c.min-first.ensures))),
      chosen_next true a.a a.mem.now l.c r.result.late l.last _ r.ensures.2 high
          (later_cells never_cell r.result.late l.last _ (omega arith) last (omega (arith, c.max-last.ensures))),
    )
