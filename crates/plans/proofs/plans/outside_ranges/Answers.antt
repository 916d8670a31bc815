use Rattle.lists.proofs.Prelude.{◌≡◌, ◌+◌, ◌≤◌, true, false, refl, arith, rules, sub-zero, length, nth, document01}
use Rattle.std.proofs.lemmas.Iterator.{serves_from_Range, cases_from_any, YieldsList-from_range}
use Rattle.heads.specs.Layout.{replica_end}
use Rattle.jobs.proofs.Held.{sizes}
use Rattle.plans.specs.Lines.{replica_strays}
use Rattle.plans.proofs.PlanLaws.{any_below, strays_task, strays_by}
use Rattle.plans.proofs.plans.outside_ranges.Goals as goal

pub returns-then-mem-a : goal.returns-then-mem-a
returns-then-mem-a c = strays_task _ _ _ c.if-mem-a.true

pub overflow_add-w : goal.overflow_add-w
overflow_add-w c = let s = sizes c.requires.0.1 in omega arith

pub any-requires-clause-callable : goal.any-requires-clause-callable
any-requires-clause-callable c =
    serves_from_Range (λ x q k. search rules)
    (λ x g h.
    let s = sizes c.requires.0.1 in
    let row : replica_end c.args.a x ≤ length c.args.mem.now = omega arith in
    let sizes : 4 ≤ length c.args.mem.now = omega arith in
    search rules)

pub returns : goal.returns
returns c =
    let mem = c.args.mem.now in
    let w = nth mem 3 + 1 in
    strays_by document01 mem c.args.a c.if-mem-a.false c.any.result
    (any_below _ _ w c.any.result (cases_from_any _ _ _ (λ i. replica_strays document01 c.args.a i mem ≡ true) (λ i. replica_strays document01 c.args.a i mem ≡ false)
    c.any.ensures.ran (YieldsList-from_range 0 w w refl (sub-zero _)) (λ x q k. search rules) (λ x q k. search rules)))
