-- The stages of reading a job follow one another: the head in a memory, the C lines, the D lines, the E lines, the end.
use Rattle.lists.proofs.Prelude.{◌≡◌, refl, ap, ◌∙◌, sym, subst, List, [], ◌∷◌, map, Bool, true, false, not, ℕ, ◌+◌, ◌≤◌, length, take, drop, length-take-le, empty, bytes, Limits, found, refused, bad, first_of, line, lines, Edge, JobHead, job_head_of, job_head_rule, run_rule, delay_rule, edge_line, edge_rule, circular, Ascends}
use Rattle.definitions.proofs.Reading.{lines_found, ruled_in, edge_parts, edges_ascend, job_head_parts}
use Rattle.std.specs.Prelude.{Result, Ok, Err}
use Rattle.text.specs.declared.refusal.Refusal.{Refusal}
use Rattle.text.specs.declared.refusal.Refusal.TheVariants.{BadLine, Circle}
use Rattle.heads.specs.Layout.{cells_for}
use Rattle.jobs.specs.Memory.{job_cells}
use Rattle.orders.specs.Edges.{edge_cell}
use Rattle.orders.specs.Order.{Within}
use Rattle.orders.specs.Links.{links_size, circles, Linked}
use Rattle.jobs.specs.Answers.{Loaded}
use Rattle.heads.specs.Reading.{job_of, from_edges, from_delays, from_runs, closed}
use Rattle.jobs.specs.Stages.{closing, Headed}

-- A memory with a head in front that has passed its rule.
module _ {l : Limits} (mem : List ℕ) (links : ℕ) (h : JobHead) (q : job_head_of mem ≡ h) where
  pub headed : job_head_rule l h ≡ 0 → cells_for h ≤ length mem → links_size h.tasks h.edges ≤ links → Headed l mem links
  headed z room more =
      let (v1, v2, _, m2, e2, _, _) = job_head_parts l (job_head_of mem) (subst (λ (g : JobHead). job_head_rule l g ≡ 0) (sym q) z) in
      let r = subst (λ (g : JobHead). cells_for g ≤ length mem) (sym q) room in
      record { some_task = v1; tasks_most = v2; processors_most = m2; edges_most = e2; room = r; links_room = subst (λ (g : JobHead). links_size g.tasks g.edges ≤ links) (sym q) more }

-- From the E lines on -------------------------------------------------------------------------------------------

-- The edges of lines that were read are between tasks of the job.
pub edges_within : (l : Limits) (v n : ℕ) (s : List ℕ) (es : List Edge) (r : List ℕ) → lines (edge_line l) (edge_rule l v) n [] s ≡ found es r → Within v es
edges_within l v n s es r f e i =
    let (ys, q, _, w) = lines_found (edge_line l) (edge_rule l v) n [] s es r f in
    let (seen, _, z) = ruled_in (edge_line l) (edge_rule l v) [] ys w e (rw q at i) in
    let (a, b, _) = edge_parts l v seen e z in (a, b)

-- And they ascend.
pub lines_ascend : (l : Limits) (v n : ℕ) (s : List ℕ) (es : List Edge) (r : List ℕ) → lines (edge_line l) (edge_rule l v) n [] s ≡ found es r → Ascends es
lines_ascend l v n s es r f = let (ys, q, _, w) = lines_found (edge_line l) (edge_rule l v) n [] s es r f in rw q (edges_ascend l v [] ys tt w)

module _ (l : Limits) (h : JobHead) (runs delays : List (List ℕ)) (s : List ℕ) where
  pub edges_no : (n : ℕ) → lines (edge_line l) (edge_rule l h.tasks) h.edges [] s ≡ refused n → closed (from_edges l h runs delays s) ≡ bad n
  unfolding closed from_edges
  edges_no n e = rw e

  -- The edges were read, and the text t is left.
  module _ (mem links : List ℕ) (es : List Edge) (t : List ℕ) (e : lines (edge_line l) (edge_rule l h.tasks) h.edges [] s ≡ found es t) where
    edges_left : (b : ℕ) (u : List ℕ) → t ≡ b ∷ u → Loaded (closed (from_edges l h runs delays s)) mem links (Err BadLine)
    unfolding closed from_edges
    edges_left b u g = rw (e, g) refl

    -- Whether the edges form a circle.
    abbrev circle : Bool
    circle = circles h.tasks es

    edges_circle : circle ≡ true → t ≡ [] → Loaded (closed (from_edges l h runs delays s)) mem links (Err Circle)
    unfolding closed from_edges first_of circular
    edges_circle y g = rw (e, g, y) refl

    -- The job's n cells stand at the front of the memory.
    module _ (n : ℕ) (o : n ≤ length mem) (q : take n mem ≡ job_cells (job_of h runs delays es)) where
      edges_end : circle ≡ false → t ≡ [] → Linked h.tasks (map edge_cell es) links → Loaded (closed (from_edges l h runs delays s)) mem links (Ok n)
      unfolding closed from_edges first_of circular
      edges_end y g m =
          let k : length (job_cells (job_of h runs delays es)) ≡ n = ap length (sym q) ∙ length-take-le n mem o in
          rw (e, g, y, k) (refl, q, m)

      pub edges_closed : (closing (not (empty t)) circle n ≡ Ok n → Linked h.tasks (map edge_cell es) links)
          → Loaded (closed (from_edges l h runs delays s)) mem links (closing (not (empty t)) circle n)
      edges_closed = by t circle refl refl
        where
          by : (u : List ℕ) (y : Bool) → t ≡ u → circle ≡ y → (closing (not (empty u)) y n ≡ Ok n → Linked h.tasks (map edge_cell es) links)
              → Loaded (closed (from_edges l h runs delays s)) mem links (closing (not (empty u)) y n)
          by (b ∷ u) y f c m = edges_left b u f
          by [] true f c m = edges_circle c f
          by [] false f c m = edges_end c f (m refl)

-- From the D lines and from the C lines on ----------------------------------------------------------------------------

module _ (l : Limits) (h : JobHead) (runs : List (List ℕ)) (s : List ℕ) where
  pub delays_no : (n : ℕ) → lines (line l (bytes "D,") (1 + h.processors)) (delay_rule l) h.processors [] s ≡ refused n
      → closed (from_delays l h runs s) ≡ bad n
  unfolding closed from_delays
  delays_no n e = rw e

  pub delays_then : (mem links : List ℕ) (ds : List (List ℕ)) (t : List ℕ)
      → lines (line l (bytes "D,") (1 + h.processors)) (delay_rule l) h.processors [] s ≡ found ds t
      → (g : JobHead) → g ≡ h → (x : Result ℕ Refusal) → Loaded (closed (from_edges l g runs (map (drop 1) ds) t)) mem links x
      → Loaded (closed (from_delays l h runs s)) mem links x
  unfolding from_delays
  delays_then mem links ds t e g q x k = rw e (rw q at k)

module _ (l : Limits) (h : JobHead) (s : List ℕ) where
  pub runs_no : (n : ℕ) → lines (line l (bytes "C,") (1 + h.processors)) (run_rule l) h.tasks [] s ≡ refused n → closed (from_runs l h s) ≡ bad n
  unfolding closed from_runs
  runs_no n e = rw e

  pub runs_then : (mem links : List ℕ) (rs : List (List ℕ)) (t : List ℕ)
      → lines (line l (bytes "C,") (1 + h.processors)) (run_rule l) h.tasks [] s ≡ found rs t
      → (g : JobHead) → g ≡ h → (x : Result ℕ Refusal) → Loaded (closed (from_delays l g (map (drop 1) rs) t)) mem links x
      → Loaded (closed (from_runs l h s)) mem links x
  unfolding from_runs
  runs_then mem links rs t e g q x k = rw e (rw q at k)
