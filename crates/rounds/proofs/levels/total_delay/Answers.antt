use Rattle.lists.proofs.Prelude.{◌≡◌, refl, sym, ap, ◌∙◌, ℕ, ◌+◌, arith, nth, count_from, below, sum, map}
use Rattle.lists.proofs.Upward.{sum_more}
use Rattle.rounds.specs.Levels.{row_sum}
use Rattle.rounds.proofs.RowSums.{total_in, total_most}
use Rattle.rounds.proofs.levels.total_delay.Goals as goal

pub loop-p-init : goal.loop-p-init
unfolding sum count_from
loop-p-init c = refl

pub overflow_add-x : goal.overflow_add-x
overflow_add-x c =
    omega (arith, c.row_total-x.ensures.1, total_most c.args.mem.now c.requires.1 c.loop-p.p (omega (arith, c.loop-p.auto.p-end)))

pub loop-p-preserved : goal.loop-p-preserved
loop-p-preserved c =
    let d = c.args.mem.now in
    omega (arith, c.row_total-x.ensures.0, sum_more (λ i. row_sum d (nth d 0 + i)) c.loop-p.p)

pub returns : goal.returns
returns c =
    let d = c.args.mem.now in
    let e : c.loop-p.p ≡ nth d 1 = omega arith in
    c.loop-p.invariant ∙ ap (λ (k : ℕ). sum (map (λ i. row_sum d (nth d 0 + i)) (below k))) e ∙ sym (total_in d c.requires.1)
