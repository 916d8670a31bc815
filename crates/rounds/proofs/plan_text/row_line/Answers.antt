use Rattle.lists.proofs.Prelude.{arith, document01}
use Rattle.jobs.proofs.Held.{sizes}
use Rattle.printing.proofs.Rendering.{lent_written}
use Rattle.rounds.specs.Texts.{row_line}
use Rattle.rounds.proofs.PlanTextLaws.{row_within, row_part, row_counted}
use Rattle.rounds.proofs.plan_text.row_line.Goals as goal

pub overflow_add-mem : goal.overflow_add-mem
overflow_add-mem c = omega (arith, (sizes c.requires.0).row_fits)

pub place-b-requires : goal.place-b-requires
place-b-requires c = let pre = c.requires in omega (arith, sizes pre.0, pre.1, c.row_at-a.ensures)

pub slice_bounds-line-end-3 : goal.slice_bounds-line-end-3
slice_bounds-line-end-3 c =
    let pre = c.requires in
    omega (arith, row_within (sizes pre.0) pre.1 c.row_at-a.ensures c.place-b.ensures)

pub overflow_add-result : goal.overflow_add-result
overflow_add-result c =
    let pre = c.requires in
    let m = (row_counted (sizes pre.0) pre.1 c.row_at-a.ensures c.place-b.ensures (omega arith) (omega arith) c.line.result c.line.ensures.value).1 in
    omega (arith, pre.2, (sizes pre.0).tasks_most.0, pre.1, m)

pub returns : goal.returns
returns c = let pre = c.requires in
    let args = c.args in
    let (e, m) = row_counted (sizes pre.0) pre.1 c.row_at-a.ensures c.place-b.ensures (omega arith) (omega arith) c.line.result
    c.line.ensures.value in
    record {
      value = (omega (arith, e), omega (arith, m));
      holds = lent_written args.out.now args.at c.place_in-p.result (row_line document01 args.capacity args.k args.mem.now) c.line.new.out
          c.place_in-p.ensures
          (rw (row_part (sizes pre.0) pre.1 c.row_at-a.ensures c.place-b.ensures) at c.line.ensures.holds);
    }
