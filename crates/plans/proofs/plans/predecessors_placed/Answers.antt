use Rattle.lists.proofs.Prelude.{◌≡◌, true, false, rules}
use Rattle.std.proofs.lemmas.Iterator.{YieldsList-from_slice, cases_from_all}
use Rattle.std.proofs.lemmas.Iterator.Adapters.{serves_from_places}
use Rattle.jobs.proofs.Held.{enters_run}
use Rattle.orders.specs.Edges.{edge_in}
use Rattle.plans.proofs.PlanLaws.{lined, sender_below, lined_by}
use Rattle.plans.proofs.plans.predecessors_placed.Goals as goal

pub all-requires-clause-callable : goal.all-requires-clause-callable
all-requires-clause-callable c =
    let (h, l, g) = c.requires in
    let r = enters_run l g c.entering-run.ensures in
    serves_from_places (YieldsList-from_slice _ c.iter.ensures.rest) (λ x q k. search rules) (λ x k w e. let b = sender_below c.args.t h r _ k w e in search rules)

pub returns : goal.returns
returns c =
    let (h, l, g) = c.requires in
    let house = c.args.house in
    lined_by c.args.t h (enters_run l g c.entering-run.ensures) c.all.result
    (cases_from_all _ _ _ (λ x. true ≡ lined house.capacity house.mem.now (edge_in x)) (λ x. false ≡ lined house.capacity house.mem.now (edge_in x))
    c.all.ensures.ran (YieldsList-from_slice _ c.iter.ensures.rest) (λ x q k. search rules) (λ x q k. search rules))
