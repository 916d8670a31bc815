-- The part of the memory with the line's replicas, three cells each.
use Rattle.lists.proofs.Prelude.{◌≡◌, ap, ◌∙◌, ◌+◌, ◌*◌, ◌-◌, ◌/◌, arith, nth, take, drop, length}
use Rattle.lists.proofs.ListLaws.{part_length, part_nth}
use Rattle.jobs.proofs.Held.{sizes}
use Rattle.rounds.proofs.ClockLaws.{clocks_advanced}
use Rattle.rounds.proofs.clocks.advance_line.Goals as goal

pub overflow_add-mem : goal.overflow_add-mem
overflow_add-mem c = let s = sizes c.requires.job.1 in omega arith

pub place-end-requires : goal.place-end-requires
place-end-requires c = let s = sizes c.requires.job.1 in omega (arith, c.requires.within)

pub slice_bounds-advance-end : goal.slice_bounds-advance-end
slice_bounds-advance-end c = let s = sizes c.requires.job.1 in omega (arith, c.requires.within, c.place-end.ensures)

pub returns : goal.returns
returns c =
    let mem = c.args.mem.now in
    let a = c.args.a in
    let first = c.place-first.result in
    let size = c.place-end.result - first in
    let cells = take size (drop first mem) in
    let pre = c.requires in
    let s = (sizes pre.job.1).row_fits in
    let p : first ≡ a + 1 = omega (arith, c.place-first.ensures) in
    let q : size ≡ 3 * (nth mem 3 + 1) = omega (arith, p, c.place-end.ensures) in
    let z : length cells / 3 ≡ nth mem 3 + 1 = omega (arith, q, part_length mem first size (omega (arith, p, q, s, pre.within))) in
    clocks_advanced pre (omega arith) cells
    (λ i l. let k : first + i ≡ a + (1 + i) = omega (arith, p) in part_nth mem first size i (omega (arith, q, l)) ∙ ap (nth mem) k)
    c.args.clocks (nth mem 3 + 1) (omega arith) c.advance.result (rw z at c.advance.ensures.early) (rw z at c.advance.ensures.late)
