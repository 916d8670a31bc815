-- Each number by its law.
use Rattle.lists.proofs.Prelude.{◌≡◌, sym, ◌∙◌}
use Rattle.orders.specs.Edges.{edge_in}
use Rattle.definitions.proofs.EdgeOrder.{order_self, order_repeated, order_first}
use Rattle.edges.proofs.EdgeLaws.{last_cell, no_cell, pair_repeated, order_on, order_back}
use Rattle.edges.proofs.edge.check_order.Goals as goal
use Rattle.edges.proofs.edge.check_order.Goals.{Else-edge_from-edge_to}

-- The edge is not from a task to itself.
apart : (c : Else-edge_from-edge_to) → (edge_in c.args.cell).from ≡ (edge_in c.args.cell).to → ⊥
apart c e = c.if-edge_from-edge_to.false (c.edge_from.ensures.0 ∙ e ∙ sym c.edge_to.ensures.0)

pub returns-then-edge_from-edge_to : goal.returns-then-edge_from-edge_to
returns-then-edge_from-edge_to c = sym (order_self _ _ (sym c.edge_from.ensures.0 ∙ c.if-edge_from-edge_to.true ∙ c.edge_to.ensures.0))

pub returns-in_default : goal.returns-in_default
returns-in_default c =
    let n = apart (goal.at.returns-in_default c).Else-edge_from-edge_to in
    sym (order_first _ _ n (no_cell c.args.before.now c.in_default.ensures.value))

pub returns-then-edge_pair : goal.returns-then-edge_pair
returns-then-edge_pair c =
    let a = c.args in
    let n = apart (goal.at.returns-then-edge_pair c).Else-edge_from-edge_to in
    let h = rw (c.edge_pair.ensures, c.edge_pair-2.ensures) at c.if-edge_pair.true in
    sym (order_on a.before.now a.cell _ (last_cell a.before.now _ c.in-Some.ensures.value) n c.requires h)

pub returns-then-is_repeated : goal.returns-then-is_repeated
returns-then-is_repeated c =
    sym (order_repeated _ _ (sym (pair_repeated c.args.cell c.args.before.now) ∙ sym c.is_repeated.ensures ∙ c.if-is_repeated.true))

pub returns : goal.returns
returns c =
    let a = c.args in
    let n = apart (goal.at.returns c).Else-edge_from-edge_to in
    let h = rw (c.edge_pair.ensures, c.edge_pair-2.ensures) at c.if-edge_pair.false in
    let q = sym (pair_repeated a.cell a.before.now) ∙ sym c.is_repeated.ensures ∙ c.if-is_repeated.false in
    sym (order_back a.before.now a.cell _ (last_cell a.before.now _ c.in-Some.ensures.value) n h q)
