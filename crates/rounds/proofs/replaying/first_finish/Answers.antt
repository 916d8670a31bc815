use Rattle.lists.proofs.Prelude.{◌≡◌, ◌≤◌, ◌+◌, ◌*◌, arith, length, nth}
use Rattle.jobs.proofs.Held.{sizes}
use Rattle.heads.specs.Layout.{replica_end}
use Rattle.plans.specs.Lines.{row_of}
use Rattle.replicas.proofs.TwiceLaws.{cells_count, cells_on, cells_early}
use Rattle.rounds.proofs.MakespanLaws.{cells_of_task}
use Rattle.rounds.proofs.FirstLaws.{task_room, first_seen}
use Rattle.rounds.proofs.replaying.first_finish.Goals as goal

pub row_of-a-requires : goal.row_of-a-requires
row_of-a-requires c =
    let (a, b, d) = cells_of_task c.requires.0 c.args.t c.requires.2 in
    let s = sizes c.requires.0.job in (omega (arith, s, c.requires.2), a, omega (arith, b))

pub place-first-requires : goal.place-first-requires
place-first-requires c = let room = task_room c.requires.0 c.args.t c.requires.2 c.row_of-a.ensures in omega (arith, room.0)

pub overflow_add-house : goal.overflow_add-house
overflow_add-house c = let room = task_room c.requires.0 c.args.t c.requires.2 c.row_of-a.ensures in omega (arith, room.1)

pub place-end-requires : goal.place-end-requires
place-end-requires c = let room = task_room c.requires.0 c.args.t c.requires.2 c.row_of-a.ensures in omega (arith, room)

pub offset_bounds-house-first : goal.offset_bounds-house-first
offset_bounds-house-first c = let room = task_room c.requires.0 c.args.t c.requires.2 c.row_of-a.ensures in omega (arith, room)

pub slice_bounds-first_finish-end : goal.slice_bounds-first_finish-end
slice_bounds-first_finish-end c = let room = task_room c.requires.0 c.args.t c.requires.2 c.row_of-a.ensures in omega (arith, room, c.place-end.ensures)

pub returns : goal.returns
returns c =
    let pre = c.requires in
    let t = c.args.t in
    let house = c.args.house in
    let m = house.mem.now in
    let row = c.row_of-a.ensures in
    let room = task_room pre.0 t pre.2 row in
    let r = row_of house.capacity t m in
    let w = nth m 3 + 1 in
    let e : replica_end r (nth m 3) ≤ length m = omega (arith, room, row) in
    let x : c.place-first.result ≡ r + 1 = omega (arith, c.place-first.ensures, row) in
    let y : c.place-end.result ≡ r + 1 + 3 * w = omega (arith, c.place-end.ensures, row) in
    rw (c.first_finish.ensures.time, c.first_finish.ensures.processor, x, y)
    (first_seen pre.0 pre.1 t pre.2 _ (cells_on m r w (omega (arith, e))) (cells_early m r w (omega (arith, e))) _ (cells_count m r w (omega (arith, e))))
