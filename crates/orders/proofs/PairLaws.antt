-- Pairs of tasks as numbers, and edges whose pairs ascend.
use Rattle.std.proofs.lemmas.Bool.Decides.{nat_tests}
use Rattle.lists.proofs.Prelude.{◌≡◌, refl, sym, ◌∙◌, inl, inr, ⊎_elim, List, [], ◌∷◌, map, true, false, ◌&&◌, ℕ, ◌+◌, ◌<◌, ◌≤◌, arith, leb, eqb, ltb, add-one, length, drop, drop-cons, lt-ltb, ltb-true, leb-true, le-leb, lt-leb, nth, In, Edge, same_pair, smaller, Ascends}
use Rattle.definitions.proofs.Lists.{both, both_true, in_map, map_in}
use Rattle.orders.specs.Edges.{edge_in, pair_in}
use Rattle.orders.specs.Order.{Within, inner}
use Rattle.orders.specs.Links.{ascending, linkable, links_size}

-- A test of numbers is one of pairs.
pub pair_same : (c d : ℕ) → eqb (pair_in c) (pair_in d) ≡ same_pair (edge_in c) (edge_in d)
pair_same c d = grind (arith, nat_tests)

pub pair_smaller : (c d : ℕ) → ltb (pair_in c) (pair_in d) ≡ smaller (edge_in c) (edge_in d)
pair_smaller c d = grind (arith, nat_tests)

-- Edges in order -----------------------------------------------------------------------------------------------------

-- They are between the tasks and ascend, from a pair on.
module _ (v : ℕ) where
  ascending_from : (least : ℕ) (cells : List ℕ) → ascending v least cells ≡ true → (c : ℕ) → In c cells → least ≤ pair_in c
  unfolding ascending
  ascending_from least [] h c i = elim i [ ]
  ascending_from least (d ∷ cells) h c i =
      let (p, q) = both (inner v d) _ h in
      let (l, r) = both (leb least (pair_in d)) _ q in
      let b = leb-true least (pair_in d) l in
      ⊎_elim (λ e. rw (← e) b) (λ j. omega (arith, b, ascending_from (pair_in d + 1) cells r c j)) i

  pub ascending_parts : (least : ℕ) (cells : List ℕ) → ascending v least cells ≡ true → Within v (map edge_in cells) × Ascends (map edge_in cells)
  unfolding ascending
  ascending_parts least [] h = (λ e i. absurd i, tt)
  ascending_parts least (c ∷ cells) h =
      let (p, q) = both (inner v c) _ h in
      let (l, r) = both (leb least (pair_in c)) _ q in
      let (f, t) = both (ltb (edge_in c).from v) (ltb (edge_in c).to v) p in
      let (w, a) = ascending_parts (pair_in c + 1) cells r in
      let up : (e : Edge) → In e (map edge_in cells) → smaller (edge_in c) e ≡ true =
      λ e i.
      let (d, k, q) = in_map edge_in e cells i in
      let s : smaller (edge_in c) (edge_in d) ≡ true = sym (pair_smaller c d) ∙ lt-ltb (pair_in c) (pair_in d) (omega (arith, ascending_from (pair_in c + 1) cells r d k)) in
      rw (← q) s in
      (λ e. ⊎_elim (λ q. rw (← q) (ltb-true (edge_in c).from v f, ltb-true (edge_in c).to v t)) (w e), (up, a))

  pub ascending_made : (least : ℕ) (cells : List ℕ) → Within v (map edge_in cells) → Ascends (map edge_in cells) → ((c : ℕ) → In c cells → least ≤ pair_in c)
      → ascending v least cells ≡ true
  unfolding ascending
  ascending_made least [] w a f = refl
  ascending_made least (c ∷ cells) w a f =
      let (b, t) = w (edge_in c) (inl refl) in
      both_true (both_true (lt-ltb (edge_in c).from v b) (lt-ltb (edge_in c).to v t))
      (both_true (le-leb least (pair_in c) (f c (inl refl)))
      (ascending_made (pair_in c + 1) cells (λ e i. w e (inr i)) a.1
      (λ d i. omega (arith, ltb-true (pair_in c) (pair_in d) (pair_smaller c d ∙ a.0 (edge_in d) (map_in edge_in d cells i))))))

  -- The test of edge i, then of those behind it.
  ascending_next : (least : ℕ) (cells : List ℕ) (i : ℕ) → i < length cells
      → ascending v least (drop i cells) ≡ (inner v (nth cells i) && (leb least (pair_in (nth cells i)) && ascending v (pair_in (nth cells i) + 1) (drop (i + 1) cells)))
  unfolding ascending
  ascending_next least cells i h = rw (drop-cons cells i 0 h, add-one i)

  -- What it says of edge i; and where that holds, those behind it are left to test.
  pub ascending_here : (least : ℕ) (cells : List ℕ) (i : ℕ) → i < length cells → ascending v least (drop i cells) ≡ true
      → ((edge_in (nth cells i)).from < v) × ((edge_in (nth cells i)).to < v) × (least ≤ pair_in (nth cells i))
  ascending_here least cells i h e =
      let c = nth cells i in
      let (p, q) = both (inner v c) _ (rw (ascending_next least cells i h) at e) in
      let (f, t) = both (ltb (edge_in c).from v) (ltb (edge_in c).to v) p in
      (ltb-true (edge_in c).from v f, ltb-true (edge_in c).to v t, leb-true least (pair_in c) (both (leb least (pair_in c)) _ q).0)

  pub ascending_behind : (least : ℕ) (cells : List ℕ) (i : ℕ) → i < length cells
      → (edge_in (nth cells i)).from < v → (edge_in (nth cells i)).to < v → least ≤ pair_in (nth cells i)
      → ascending v (pair_in (nth cells i) + 1) (drop (i + 1) cells) ≡ ascending v least (drop i cells)
  ascending_behind least cells i h f t p =
      let c = nth cells i in
      rw (ascending_next least cells i h, lt-ltb (edge_in c).from v f, lt-ltb (edge_in c).to v t, le-leb least (pair_in c) p)

-- What can be linked -------------------------------------------------------------------------------------------------

module _ (v : ℕ) (edges : List ℕ) (size : ℕ) where
  pub linkable_parts : linkable v edges size ≡ true → (links_size v (length edges) ≤ size) × Within v (map edge_in edges) × Ascends (map edge_in edges)
  unfolding linkable
  linkable_parts h =
      let (l, o) = both (leb (links_size v (length edges)) size) _ h in
      let (w, a) = ascending_parts v 0 edges o in
      (leb-true (links_size v (length edges)) size l, w, a)

  pub linkable_made : links_size v (length edges) ≤ size → Within v (map edge_in edges) → Ascends (map edge_in edges) → linkable v edges size ≡ true
  unfolding linkable
  linkable_made l w a = both_true (le-leb (links_size v (length edges)) size l) (ascending_made v 0 edges w a (λ c i. omega arith))

  pub linkable_few : size < links_size v (length edges) → linkable v edges size ≡ false
  unfolding linkable
  linkable_few l = rw (lt-leb (links_size v (length edges)) size l)

  pub linkable_rest : links_size v (length edges) ≤ size → linkable v edges size ≡ ascending v 0 edges
  unfolding linkable
  linkable_rest l = rw (le-leb (links_size v (length edges)) size l)
