-- Edges in cells, their order, and the rule of an edge.
use Rattle.lists.proofs.Prelude.{◌≡◌, refl, sym, ◌∙◌, List, [], ◌∷◌, ◌++◌, map, map-append, get_last?, none, some, true, false, ℕ, ◌+◌, ◌*◌, ◌-◌, ◌/◌}
use Rattle.lists.proofs.Prelude.{◌%◌, eqb, ◌<◌, ◌≤◌, arith, add-one, length, take, take-suc, get_or-take, lt-ltb, le-ltb, le-leb, bytes, nth}
use Rattle.lists.proofs.Prelude.{any, Limits, found, refused, first_of, return, Edge, same_pair, edge_of, edge_line, edge_rule, Ascends}
use Rattle.lists.proofs.Chains.{any_listed}
use Rattle.lists.proofs.ListLaws.{any_map}
use native.Mathlib.Nat.{div-div-eq-div-mul}
use Rattle.definitions.specs.Job.{smaller_than_last, edge_order}
use Rattle.definitions.proofs.Lists.{both_true, passed, none_in, last_in}
use Rattle.definitions.proofs.Reading.{rule_found}
use Rattle.definitions.proofs.EdgeOrder.{else_smaller, order_next, order_smaller, ascends_more}
use Rattle.text.specs.Suited.{Suited}
use Rattle.std.specs.Prelude.{Some, None, Result, Ok, Err, slice_get}
use Rattle.std.specs.List.{list_any}
use Rattle.std.proofs.lemmas.Option.{slice_get-get_or, get_or_from_slice_get}
use Rattle.text.specs.Numbers.{number_of}
use Rattle.text.specs.Meaning.{reading, due_of, line_into, ruled}
use Rattle.text.specs.declared.refusal.Refusal.{Refusal}
use Rattle.lines.proofs.LineLaws.{line_reading, line_judged}
use Rattle.lines.proofs.LeftLaws.{Leaves, leaves_all, leaves_next, line_leaves}
use Rattle.orders.specs.Edges.{edge_cell, edge_in, pair_in}
use Rattle.orders.proofs.PairLaws.{pair_same, pair_smaller}
use Rattle.edges.specs.EdgeLines.{edge_lines, edges_into}

-- An edge between v tasks in a cell, and back.
pub edge_of_cell : (l : Limits) → Suited l → (v : ℕ) (e : Edge) → v ≤ l.tasks → e.from < v → e.to < v → edge_in (edge_cell e) ≡ e
edge_of_cell l u v e h f t =
    let i : l.tasks < 256 = u.task_fits in
    let q : edge_cell e / 256 ≡ e.to + 256 * e.volume = omega arith in
    let a : edge_cell e % 256 ≡ e.from = omega arith in
    let b : edge_cell e / 256 % 256 ≡ e.to = rw q (omega arith) in
    let c : edge_cell e / 65536 ≡ e.volume = omega arith in
    rw (a, b, c)

pub cell_of_edge : (c : ℕ) → edge_cell (edge_in c) ≡ c
cell_of_edge c = omega (arith, div-div-eq-div-mul c 256 256)

-- The order of edges in cells -----------------------------------------------------------------------------------------

-- The last of some edges, if there is one.
last_from : (c : ℕ) (cs : List ℕ) → get_last? (map edge_in (c ∷ cs)) ≡ some (edge_in (nth (c ∷ cs) (length cs)))
last_from c [] = refl
last_from c (d ∷ cs) = last_from d cs

pub last_cell : (cs : List ℕ) (x : ℕ) → Some x ≡ slice_get cs (length cs - 1) → get_last? (map edge_in cs) ≡ some (edge_in x)
last_cell [] x h = absurd (cc)
last_cell (c ∷ cs) x h =
    let e : length (c ∷ cs) - 1 ≡ length cs = omega arith in
    rw (get_or_from_slice_get (c ∷ cs) (length cs) x 0 (sym (rw e at h))) at (last_from c cs)

pub no_cell : (cs : List ℕ) → None ≡ slice_get cs (length cs - 1) → get_last? (map edge_in cs) ≡ none
no_cell [] h = refl
no_cell (c ∷ cs) h = let e = slice_get-get_or (c ∷ cs) (length (c ∷ cs) - 1) 0 (omega arith) in absurd (cc)

-- Whether some cell has the pair of cell c is whether some edge has the pair of its edge.
pub pair_repeated : (c : ℕ) (cs : List ℕ) → list_any (λ x. eqb (pair_in x) (pair_in c)) cs ≡ any (λ d. same_pair d (edge_in c)) (map edge_in cs)
pair_repeated c cs = any_listed _ _ (λ d. pair_same d c) cs ∙ sym (any_map (λ d. same_pair d (edge_in c)) edge_in cs)

-- The edge in cell c after those in cells cs, of which x is the last.
module _ (cs : List ℕ) (c x : ℕ) (l : get_last? (map edge_in cs) ≡ some (edge_in x)) (n : (edge_in c).from ≡ (edge_in c).to → ⊥) where
  -- It is greater than the last.
  pub order_on : Ascends (map edge_in cs) → pair_in x < pair_in c → first_of (edge_order (map edge_in cs) (edge_in c)) ≡ 0
  order_on a h = order_next (map edge_in cs) (edge_in c) n (edge_in x) a l (sym (pair_smaller x c) ∙ lt-ltb (pair_in x) (pair_in c) h)

  -- It is not, and no earlier one has its pair.
  pub order_back : pair_in c ≤ pair_in x → any (λ d. same_pair d (edge_in c)) (map edge_in cs) ≡ false → first_of (edge_order (map edge_in cs) (edge_in c)) ≡ 16
  order_back h q =
      let s = none_in (λ d. same_pair d (edge_in c)) (edge_in x) (map edge_in cs) q (last_in (map edge_in cs) (edge_in x) l) in
      let b : smaller_than_last (get_last? (map edge_in cs)) (edge_in c) ≡ true =
      rw l (else_smaller (edge_in x) (edge_in c) s (sym (pair_smaller x c) ∙ le-ltb (pair_in x) (pair_in c) h)) in
      order_smaller (map edge_in cs) (edge_in c) n q b

-- An edge line after some edges, read with the answer r: its form, then its rule. Its numbers stand at the front of ys.
module _ (l : Limits) (v : ℕ) (seen : List Edge) (s t ys : List ℕ) (r : Result (Unit {0}) Refusal) (e : reading t (take 3 ys) r ≡ line_into l 3 (bytes "E,") 3 s) where
  pub edge_bad : (x : Refusal) → r ≡ Err x → refused (number_of x) ≡ ruled (edge_line l) (edge_rule l v) seen s
  unfolding edge_line
  edge_bad x f = rw (line_reading l 3 (bytes "E,") 3 s t ys r (Err x) e (omega arith) f)

  module _ (u : Unit {0}) (f : r ≡ Ok u) where
    formed : edge_line l s ≡ found (edge_of ys) t
    unfolding edge_line
    formed = rw (line_reading l 3 (bytes "E,") 3 s t ys r (Ok u) e (omega arith) f, get_or-take 3 ys 0 0 (omega arith), get_or-take 3 ys 1 0 (omega arith), get_or-take 3 ys 2 0 (omega arith))

    -- Its rule gave the answer x.
    pub edge_judged : (x : Result (Unit {0}) Refusal) → due_of x ≡ edge_rule l v seen (edge_of ys) → reading t (edge_of ys) x ≡ ruled (edge_line l) (edge_rule l v) seen s
    edge_judged = line_judged (edge_line l) (edge_rule l v) seen s (edge_of ys) t formed

-- n edges that fit so many cells.
pub edges_enough : (l : Limits) (room v n : ℕ) (s : List ℕ) → v ≤ l.tasks → n ≤ room → edges_into l room v n s ≡ edge_lines l v n [] s
unfolding edges_into
edges_enough l room v n s h g = rw (both_true (le-leb v l.tasks h) (le-leb n room g))

-- One edge more.
pub edges_more : (cs : List ℕ) (i : ℕ) → i < length cs → map edge_in (take (i + 1) cs) ≡ map edge_in (take i cs) ++ edge_in (nth cs i) ∷ []
edges_more cs i h = rw (add-one i, take-suc cs i 0 h) (map-append edge_in (take i cs) (nth cs i ∷ []))

-- With a line that was found the edges go on ascending.
pub edge_passed : (l : Limits) (v : ℕ) (seen : List Edge) (s : List ℕ) (e : Edge) (r : List ℕ) → Ascends seen
    → ruled (edge_line l) (edge_rule l v) seen s ≡ found e r → Ascends (seen ++ e ∷ [])
unfolding edge_rule
edge_passed l v seen s e r a f =
    let (d, t, _, z, g) = rule_found (edge_line l s) (edge_rule l v seen) (λ d. return d) e r f in
    let q : d ≡ e = cc in
    rw q at (ascends_more seen d a (passed _ _ _ z).1)

-- An edge line that was read leaves a part of the text.
pub edge_leaves : (l : Limits) (s : List ℕ) → Leaves s (edge_line l s)
unfolding edge_line
edge_leaves l s = leaves_next s _ _ (line_leaves l (bytes "E,") 3 s) λ vs t. leaves_all t (edge_of vs)
