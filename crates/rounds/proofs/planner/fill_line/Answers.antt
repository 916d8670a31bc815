use Rattle.lists.proofs.Prelude.{◌≡◌, sym, ◌<◌, ◌+◌, arith, nth, take}
use Rattle.heads.specs.Layout.{lanes_most}
use Rattle.jobs.proofs.Held.{sizes}
use Rattle.rounds.proofs.Drawing.{begun_none, list_room, list_taken, replica_wanted, replica_on_lem, replica_lane, replica_within, replica_more, replicas_all}
use Rattle.rounds.proofs.planner.fill_line.Goals as goal
use Rattle.rounds.proofs.planner.fill_line.Goals.{In-loop-c}

pub overflow_add-w : goal.overflow_add-w
overflow_add-w c = omega (arith, sizes c.requires.drawn.standing.job)

pub slice_bounds-list-end : goal.slice_bounds-list-end
slice_bounds-list-end c = list_room c.requires c.chosen-list.ensures

pub slice_bounds-p-items-end : goal.slice_bounds-p-items-end
slice_bounds-p-items-end c = sym (list_taken c.requires c.chosen-list.ensures)

pub loop-c-init : goal.loop-c-init
loop-c-init c = begun_none

-- The processor of replica c has a lane.
lane : (c : In-loop-c) → nth (take (nth c.args.mem.now 3 + 1) c.chosen-list.result) c.loop-c.c < lanes_most
lane c = let s = sizes c.requires.drawn.standing.job in omega (arith, s.lanes_fit, replica_lane c.requires c.chosen-list.ensures c.loop-c-test.true)

pub offset_bounds-finishes-p : goal.offset_bounds-finishes-p
offset_bounds-finishes-p c = omega (arith, lane (goal.at.offset_bounds-finishes-p c).In-loop-c)

pub bounds-finishes-p : goal.bounds-finishes-p
bounds-finishes-p c = lane (goal.at.bounds-finishes-p c).In-loop-c

pub offset_bounds-finishes-p-in-loop-c : goal.offset_bounds-finishes-p-in-loop-c
offset_bounds-finishes-p-in-loop-c c = omega (arith, lane (goal.at.offset_bounds-finishes-p-in-loop-c c).In-loop-c)

pub bounds-finishes-p-in-loop-c : goal.bounds-finishes-p-in-loop-c
bounds-finishes-p-in-loop-c c = lane (goal.at.bounds-finishes-p-in-loop-c c).In-loop-c

pub put_replica-requires : goal.put_replica-requires
put_replica-requires c = rw c.row_at-a.ensures (replica_within c.requires (replica_wanted c.requires c.chosen-list.ensures c.loop-c-test.true) c.loop-c.invariant)

pub loop-c-preserved : goal.loop-c-preserved
loop-c-preserved c =
    let o = c.requires in
    let s = c.chosen-list.ensures in
    let h = c.loop-c-test.true in
    let wrote = rw (c.row_at-a.ensures, c.from.ensures, c.from-in-loop-c.ensures) at c.put_replica.ensures in
    replica_more o (replica_wanted o s h) c.loop-c.invariant (replica_lane o s h) (replica_on_lem o s h) wrote

pub returns : goal.returns
returns c =
    let e : c.loop-c.c ≡ nth c.args.mem.now 3 + 1 = omega (arith, list_taken c.requires c.chosen-list.ensures) in replicas_all c.requires e c.loop-c.invariant
