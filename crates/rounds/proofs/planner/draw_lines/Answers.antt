use Rattle.lists.proofs.Prelude.{◌≡◌, ◌<◌, ◌-◌, ◌+◌, arith, length, nth, document01}
use Rattle.heads.specs.Layout.{memory_size, job_size, level_at, row_at}
use Rattle.jobs.specs.Held.{job_in, LinksHeld}
use Rattle.plans.specs.Lines.{placed_in}
use Rattle.jobs.proofs.Held.{processors_in, sizes, links_kept}
use Rattle.lists.proofs.Kept.{same_before, same_behind, kept_all, kept_then, kept_wider}
use Rattle.rounds.specs.Arrivals.{DelaysHeld}
use Rattle.rounds.specs.Planning.{Critical}
use Rattle.rounds.proofs.TimeTables.{delays_kept}
use Rattle.rounds.proofs.EndLaws.{ended_none, ended_same, no_delay_kept}
use Rattle.rounds.proofs.FreeLaws.{last_of, last_critical, free_out}
use Rattle.rounds.proofs.Drawing.{drawn_choice, listed_some}
use Rattle.rounds.proofs.Tables.{clocks_kept}
use Rattle.rounds.proofs.ClockLaws.{outset_clocks}
use Rattle.rounds.proofs.planner.draw_lines.Goals as goal
use Rattle.rounds.proofs.planner.draw_lines.Goals.{After-pop-t}

pub loop-k-init : goal.loop-k-init
unfolding placed_in
loop-k-init c =
    let new = c.new-clocks.ensures in
    let s = c.requires in
    let w = sizes s.0.standing.job in
    let clocks = outset_clocks {j = job_in c.args.mem.now} (rw (processors_in c.args.mem.now) w.lanes_fit) new.0 new.1 in
    (kept_all, s.0, s.1, clocks, c.list.ensures, ended_none s.3)

pub pop-t-requires : goal.pop-t-requires
pop-t-requires c =
    let l = c.loop-k in
    let (kept, drawn, ranked, _, free, _) = l.invariant in
    listed_some drawn ranked (omega (arith, c.loop-k-test.true, kept.before 0 (omega arith))) l.free free

-- The task that was the last of the list is next, and the job's delays and links are as they were.
next : (c : After-pop-t) → let l = c.loop-k in let t = c.pop-t.result in
    (t < nth l.mem 0) × Critical document01 c.args.capacity l.k t l.mem × DelaysHeld document01 c.fill.new.self l.mem × LinksHeld l.mem c.args.links.now
next c =
    let l = c.loop-k in
    let (kept, drawn, ranked, _, free, _) = l.invariant in
    let more : l.k < nth l.mem 0 = omega (arith, c.loop-k-test.true, kept.before 0 (omega arith)) in
    let job = c.requires.0.standing.job in
    let same = same_before 0 (job_size c.args.capacity) kept (omega arith) in
    let held = c.fill.ensures in
    let (some, _, last) = last_of l.free c.pop-t.new.self c.pop-t.result c.pop-t.ensures in (
      rw (← last) (free.tasks.task_of (length l.free - 1) (omega (arith, some))),
      record { drawn = drawn; ranked = ranked; more = more; lower = rw (← last) (last_critical free some) },
      record { table = delays_kept job same held.table; over = no_delay_kept job same held.over; most = held.most },
      links_kept job kept (omega arith) c.requires.2,
    )

pub place_task-clocks-requires : goal.place_task-clocks-requires
place_task-clocks-requires c =
    let (_, critical, delays, links) = next (goal.at.place_task-clocks-requires c).After-pop-t in
    let v = c.loop-k.invariant in
    (delays, v.5, critical, v.3, links)

pub release-requires : goal.release-requires
release-requires c =
    let (task, _, _, links) = next (goal.at.release-requires c).After-pop-t in
    let l = c.loop-k in
    let p = c.place_task-clocks.ensures in
    let z : nth c.place_task-clocks.new.mem 0 ≡ nth l.mem 0 = p.0.before 0 (omega arith) in
    let job = l.invariant.1.standing.job in
    ((l.k + 1, p.1), p.2, free_out (sizes job) l.invariant.4 c.pop-t.ensures p.4, rw z task, links_kept job p.0 (omega arith) links)

pub loop-k-preserved : goal.loop-k-preserved
loop-k-preserved c =
    let l = c.loop-k in
    let capacity = c.args.capacity in
    let p = c.place_task-clocks.ensures in
    let q = c.release.ensures in
    let rows = same_behind (row_at capacity 0) (row_at capacity (l.k + 1)) q.0 (omega arith) in (
      kept_then l.invariant.0
          (kept_then (kept_wider (level_at _) (memory_size _) p.0 (omega arith) (omega arith))
          (kept_wider (level_at _) (memory_size _) q.0 (omega arith) (omega arith))),
      drawn_choice q.0 p.1,
      q.1,
      clocks_kept p.1.standing.job q.0 (omega arith) _ rows p.3,
      q.2,
      ended_same p.5 (q.0.before 0 (omega arith)) (q.0.before 3 (omega arith)) (sizes p.1.standing.job).row_fits rows,
    )

pub returns : goal.returns
returns c =
    let l = c.loop-k in
    let e : l.k ≡ nth c.args.mem.now 0 = omega arith in
    (l.invariant.0, rw (← e) l.invariant.1)
