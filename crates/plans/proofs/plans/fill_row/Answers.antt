-- The numbers are read into the row's own cells.
use Rattle.lists.proofs.Prelude.{arith}
use Rattle.jobs.proofs.Held.{sizes}
use Rattle.plans.proofs.PlanReading.{row_within, row_numbers, row_filled}
use Rattle.plans.proofs.plans.fill_row.Goals as goal

pub line_cells-n-requires : goal.line_cells-n-requires
line_cells-n-requires c = let s = sizes c.requires.0.job in (omega arith, s.losses_most)

pub overflow_add-a : goal.overflow_add-a
overflow_add-a c =
    let pre = c.requires in
    omega (arith, row_numbers pre.0, row_within pre.0 pre.1, c.line_cells-n.ensures, c.row_at-a.ensures)

pub slice_bounds-line-end-2 : goal.slice_bounds-line-end-2
slice_bounds-line-end-2 c =
    let pre = c.requires in
    omega (arith, row_numbers pre.0, row_within pre.0 pre.1, c.line_cells-n.ensures, c.row_at-a.ensures)

pub returns : goal.returns
returns c =
    row_filled c.requires.0 c.requires.1 _ _ c.row_at-a.ensures c.line_cells-n.ensures c.line.new.vals c.line.auto.vals
    c.args.reader.now c.line.new.self c.line.result c.line.ensures.read
