-- The line is what the definition places next.
use Rattle.lists.proofs.Prelude.{◌+◌, arith, set, length-set}
use Rattle.heads.specs.Layout.{line_at, row_at}
use Rattle.jobs.proofs.Held.{sizes}
use Rattle.rounds.proofs.Placed.{predecessors_all}
use Rattle.rounds.proofs.Drawing.{task_below, task_predecessors}
use Rattle.rounds.proofs.ClockLaws.{line_timed, clocks_line}
use Rattle.rounds.proofs.EndLaws.{supplied_clocks}
use Rattle.rounds.proofs.NextLine.{Laid, laid, laid_kept, old_rows, ended_laid, tried, taken, drawn_next, ranked_next}
use Rattle.rounds.proofs.Tables.{clocks_kept}
use Rattle.rounds.proofs.Outcomes.{clocks_short, predecessors_short}
use Rattle.rounds.proofs.planner.place_task.Goals as goal
use Rattle.rounds.proofs.planner.place_task.Goals.{After-fill_line}

-- The line is laid once its task is noted.
drawn_line : (c : After-fill_line) → let a = c.args in
    Laid a.capacity a.k a.t a.mem.now (set (set c.fill_line.new.mem (row_at a.capacity a.k) a.t) (line_at a.capacity + a.t) (a.k + 1))
drawn_line c = laid c.requires.2 c.fill_line.new.mem c.fill_line.ensures

pub finishes-finishes-requires : goal.finishes-finishes-requires
finishes-finishes-requires c =
    let (delays, ended, g, clocks, links) = c.requires in
    let s = g.drawn in
    let all = predecessors_all s.standing _ (task_predecessors g) in
    let short = clocks_short s.standing (omega arith) s.ticks clocks in (
      (_, s.standing),
      delays,
      task_below g,
      predecessors_short s.standing (omega arith) s.ticks _ all,
      short.0,
      short.1,
      supplied_clocks s.standing (omega arith) _ all ended s.settled clocks,
      links,
    )

pub fill_line-requires : goal.fill_line-requires
fill_line-requires c = let p = c.requires in tried p.2 p.3 c.finishes-finishes.ensures

pub put_line-requires : goal.put_line-requires
put_line-requires c =
    let g = c.requires.2 in
    let w = sizes g.drawn.standing.job in
    simp length-set (omega (arith, g.more, task_below g, w.tasks_most, w.size, c.fill_line.ensures.kept.size))

pub put_ends-requires : goal.put_ends-requires
put_ends-requires c =
    let g = c.requires.2 in
    let n = drawn_next g (drawn_line (goal.at.put_ends-requires c).After-fill_line) in
    let x = line_timed n.standing (omega arith) n.ticks c.args.k (omega arith) in
    let w = sizes g.drawn.standing.job in
    let put = c.put_line.ensures in
    let at = c.row_at-a.ensures in
    rw (put, at)
    (x.job, x.row, x.within, omega (arith, task_below g, w.tasks_most), omega (arith, task_below g, c.requires.1.size))

pub advance_line-requires : goal.advance_line-requires
advance_line-requires c =
    let n = drawn_next c.requires.2 (drawn_line (goal.at.advance_line-requires c).After-fill_line) in
    let put = c.put_line.ensures in
    let at = c.row_at-a.ensures in
    rw (put, at) (line_timed n.standing (omega arith) n.ticks c.args.k (omega arith))

pub returns : goal.returns
returns c =
    let x = drawn_line (goal.at.returns c).After-fill_line in
    let (_, ended, g, clocks, _) = c.requires in
    let at = c.row_at-a.ensures in
    let q = rw at at c.put_line.ensures in
    let after = rw (q, at) at c.advance_line.ensures in
    let put = rw (q, at) at c.put_ends.ensures in
    let old = clocks_kept g.drawn.standing.job (laid_kept g x) (omega arith) c.args.k (old_rows g x) clocks in
    rw q (
      laid_kept g x,
      drawn_next g x,
      ranked_next g x,
      clocks_line c.args.capacity c.args.k _ c.advance_line.result (after _ _ old),
      taken g x,
      ended_laid g x ended put,
    )
