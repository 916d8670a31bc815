use Rattle.lists.proofs.Prelude.{sym, ◌∙◌, arith, false≢true}
use Rattle.jobs.proofs.Held.{sizes}
use Rattle.rounds.proofs.ClockLaws.{line_timed, clocks_line}
use Rattle.rounds.proofs.EndLaws.{ended_none, ended_line}
use Rattle.rounds.proofs.AgreeLaws.{clocks_new, settled_agreed, ticks_yes, ticks_no, agreed_next}
use Rattle.rounds.proofs.checker.lines_agree.Goals as goal

pub fill-requires : goal.fill-requires
fill-requires c = let (e, f) = c.new-delays.ensures in ((_, c.requires.0.standing.job), e, f)

pub bounds-mem-0 : goal.bounds-mem-0
bounds-mem-0 c = let s = sizes c.requires.0.standing.job in omega arith

pub loop-k-init : goal.loop-k-init
loop-k-init c =
    let new = clocks_new c.new-clocks.result c.args.house.mem.now c.requires.0.standing.job c.new-clocks.ensures.0 c.new-clocks.ensures.1 in
    (λ i l. absurd (omega arith), λ i n l m. absurd (omega arith), new, ended_none c.requires.3)

pub line_agrees-requires : goal.line_agrees-requires
line_agrees-requires c =
    let pre = c.requires in
    let inv = c.loop-k.invariant in
    (pre.0, c.fill.ensures, inv.3, c.loop-k-test.true, inv.1, inv.2, settled_agreed _ _ _ inv.0, pre.2)

pub row_at-a-requires : goal.row_at-a-requires
row_at-a-requires c = omega (arith, sizes c.requires.0.standing.job, c.loop-k-test.true)

pub offset_bounds-mem-a : goal.offset_bounds-mem-a
offset_bounds-mem-a c = omega (arith, sizes c.requires.0.standing.job, c.loop-k-test.true, c.row_at-a.ensures)

pub bounds-mem-a : goal.bounds-mem-a
bounds-mem-a c = omega (arith, sizes c.requires.0.standing.job, c.loop-k-test.true, c.row_at-a.ensures)

pub put_ends-requires : goal.put_ends-requires
put_ends-requires c =
    let s = c.requires.0.standing in
    let l = c.loop-k in
    let here = c.loop-k-test.true in
    let x = line_timed s (omega arith) (c.line_agrees.ensures.0 c.if-not-line_agrees.false).1 l.k (omega arith) in
    let t = s.task_of l.k here in
    rw c.row_at-a.ensures (x.job, x.row, x.within, omega (arith, t, (sizes s.job).tasks_most), omega (arith, t, l.invariant.3.size))

pub advance_line-clocks-requires : goal.advance_line-clocks-requires
advance_line-clocks-requires c =
    let pre = c.requires in
    let short = (c.line_agrees.ensures.0 c.if-not-line_agrees.false).1 in
    rw c.row_at-a.ensures (line_timed pre.0.standing (omega arith) short _ (omega arith))

pub returns-then-not-line_agrees : goal.returns-then-not-line_agrees
returns-then-not-line_agrees c =
    let pre = c.requires in
    ticks_no pre.0 pre.1 _ c.loop-k-test.true (λ a. false≢true (sym c.if-not-line_agrees.true ∙ c.line_agrees.ensures.1 a))

pub loop-k-preserved : goal.loop-k-preserved
loop-k-preserved c =
    let (a, s) = c.line_agrees.ensures.0 c.if-not-line_agrees.false in
    let x = c.args.house in
    let l = c.loop-k in
    let at = c.row_at-a.ensures in
    let r = clocks_line x.capacity l.k x.mem.now c.advance_line-clocks.result (rw at at (c.advance_line-clocks.ensures _ _ l.invariant.2)) in (
      agreed_next x.capacity x.mem.now l.k a l.invariant.0,
      s,
      r,
      ended_line c.requires.0.standing c.loop-k-test.true l.invariant.3 (rw at at c.put_ends.ensures),
    )

pub returns : goal.returns
returns c =
    let pre = c.requires in
    ticks_yes pre.0 pre.1 _ (omega arith) c.loop-k.invariant.0
