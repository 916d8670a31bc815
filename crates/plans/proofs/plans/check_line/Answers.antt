-- The tests are the rule's, in its order.
use Rattle.lists.proofs.Prelude.{sym, ◌∙◌, arith, first_of, eqb-true, not-false}
use Rattle.jobs.proofs.Held.{sizes}
use Rattle.plans.proofs.PlanLaws.{strays_not, line_strays, line_rule}
use Rattle.plans.proofs.plans.check_line.Goals as goal
use Rattle.plans.proofs.plans.check_line.Goals.{then-has_line-via-then-has_line, then-has_line-via-else-has_line+then-not-predecessors_placed}

pub returns-then-outside_ranges : goal.returns-then-outside_ranges
returns-then-outside_ranges c =
    let mem = c.args.house.mem.now in
    (λ k s. line_strays mem c.args.a k s (sym c.if-outside_ranges.true ∙ c.outside_ranges.ensures), λ z. absurd (omega arith))

pub returns-then-descends : goal.returns-then-descends
unfolding first_of
returns-then-descends c =
    let mem = c.args.house.mem.now in
    let f = sym c.if-outside_ranges.false ∙ c.outside_ranges.ensures in
    (λ k s. rw (← line_rule mem c.args.a k s f, ← c.descends.ensures, c.if-descends.true), λ z. absurd (omega arith))

pub has_line-requires : goal.has_line-requires
has_line-requires c =
    let h = (strays_not _ c.args.house.mem.now c.args.a (sym c.outside_ranges.ensures ∙ c.if-outside_ranges.false)).0 in
    omega (arith, sizes c.requires.0, h)

pub predecessors_placed-requires : goal.predecessors_placed-requires
predecessors_placed-requires c =
    let pre = c.requires in
    let f = sym c.outside_ranges.ensures ∙ c.if-outside_ranges.false in
    (pre.0, pre.1, (strays_not _ c.args.house.mem.now c.args.a f).0)

pub returns-then-has_line : goal.returns-then-has_line
unfolding first_of
returns-then-has_line c =
    let mem = c.args.house.mem.now in
    let f = sym c.if-outside_ranges.false ∙ c.outside_ranges.ensures in
    let d = sym c.descends.ensures ∙ c.if-descends.false in
    elim c.then-has_line.branch [
      | then-has_line-via-then-has_line w ↦
          (λ k s. rw (← line_rule mem c.args.a k s f, d, ← c.has_line.ensures, w.if-has_line.true), λ z. absurd (omega arith))
      | then-has_line-via-else-has_line+then-not-predecessors_placed w ↦
          (λ k s. rw (← line_rule mem c.args.a k s f, d, ← c.has_line.ensures, w.if-has_line.false, ← w.predecessors_placed.ensures, w.if-not-predecessors_placed.true), λ z. absurd (omega arith))
    ]

pub returns : goal.returns
unfolding first_of
returns c =
    let mem = c.args.house.mem.now in
    let f = sym c.if-outside_ranges.false ∙ c.outside_ranges.ensures in
    let d = sym c.descends.ensures ∙ c.if-descends.false in
    let n = sym c.has_line.ensures ∙ c.if-has_line.false in
    let h = strays_not _ mem c.args.a (sym f) in
    (λ k s. rw (← line_rule mem c.args.a k s f, d, n, ← c.predecessors_placed.ensures, c.if-not-predecessors_placed.false), λ _. (h.0, eqb-true _ 0 (not-false _ n), h.1))
