use Rattle.lists.proofs.Prelude.{◌+◌, ◌<◌, ◌≤◌, refl, arith, rules, sub-zero, length, nth}
use borrow.Author.Tests.{tests}
use Rattle.std.proofs.lemmas.Iterator.{serves_from_Range, cases_from_any, YieldsList-from_range}
use Rattle.heads.specs.Layout.{processor_at, replica_end}
use Rattle.jobs.proofs.Held.{sizes}
use Rattle.plans.proofs.PlanLaws.{any_below, descends_by}
use Rattle.plans.proofs.plans.descends.Goals as goal

pub any-requires-clause-callable : goal.any-requires-clause-callable
any-requires-clause-callable c =
    serves_from_Range (λ x q k. search rules)
    (λ x g h.
    let s = sizes c.requires.0.1 in
    let row : replica_end c.args.a x ≤ length c.args.mem.now = omega arith in
    let next : replica_end c.args.a (x + 1) ≤ length c.args.mem.now = omega arith in
    let small : x + 1 < 18446744073709551616 = omega arith in
    search rules)

pub returns : goal.returns
returns c =
    let mem = c.args.mem.now in
    let n = nth mem 3 in
    descends_by mem c.args.a c.any.result
    (any_below _ _ n c.any.result
    (cases_from_any _ _ _ (λ i. nth mem (processor_at c.args.a (i + 1)) < nth mem (processor_at c.args.a i)) (λ i. nth mem (processor_at c.args.a i) ≤ nth mem (processor_at c.args.a (i + 1)))
    c.any.ensures.ran (YieldsList-from_range 0 n n refl (sub-zero _)) (λ x q k. search (rules, tests)) (λ x q k. search (rules, tests))))
