-- The order of the tasks among the links, while it is made.
use Rattle.std.specs.Prelude.{◌≡◌, List, [], ◌∷◌, map, true, not, ℕ, ◌+◌, ◌-◌, ◌<◌, ◌≤◌, eqb, length, drop, set, if◌then◌else◌}
use Rattle.definitions.specs.Lists.{nth, keep, In, has, distinct}
use Rattle.definitions.specs.Job.{Edge}
use Rattle.orders.specs.Edges.{edge_in}
use Rattle.orders.specs.Order.{listed}
use Rattle.orders.specs.Links.{order_at, pending_at, entering, Runs}

-- The first n tasks of the order, the last of them first; how many edges still block task t.
abbrev pub ordered : ℕ → ℕ → List ℕ → List ℕ
ordered v n links = listed (drop (order_at v 0) links) n

abbrev pub pending : ℕ → List ℕ → ℕ → ℕ
pending v links t = nth links (pending_at v t)

-- The links when one edge less blocks task t.
abbrev pub released : ℕ → ℕ → List ℕ → List ℕ
released v t links = set links (pending_at v t) (pending v links t - 1)

-- The links when task t has joined n tasks of the order, if no edge blocks it; how many tasks those then are.
abbrev pub joined : ℕ → ℕ → ℕ → List ℕ → List ℕ
joined v t n links = if eqb (pending v links t) 0 then set links (order_at v n) t else links

abbrev pub joined_count : ℕ → ℕ → ℕ → List ℕ → ℕ
joined_count v t n links = if eqb (pending v links t) 0 then n + 1 else n

-- Of some edges those that leave none of the tasks ts.
abbrev pub blocking : List ℕ → List Edge → List Edge
blocking ts es = keep (λ e. not (has e.from ts)) es

-- Each task of a list, the last of them first, comes after all that precede it.
unfoldable pub PredecessorsFirst : List Edge → List ℕ → Type 0
PredecessorsFirst es [] = Unit {0}
PredecessorsFirst es (t ∷ ts) = ((e : Edge) → In e es → e.to ≡ t → In e.from ts) × PredecessorsFirst es ts

-- The tasks ts are those below v that wait for no edge, each once and after all that precede it.
pub record Queue (es : List Edge) (v : ℕ) (ts : List ℕ) (waits : ℕ → ℕ) : Type 0 where
  pub task_of : (t : ℕ) → In t ts → (t < v) × (waits t ≡ 0)
  pub free_of : (t : ℕ) → t < v → waits t ≡ 0 → In t ts
  pub once : distinct ts ≡ true
  pub predecessors : PredecessorsFirst es ts

-- So many edges block each task: the edges that leave the first i tasks of the order no longer do, but for some.
abbrev pub Blocked : ℕ → List ℕ → List ℕ → ℕ → List Edge → Type 0
Blocked v edges links i some =
    (u : ℕ) → u < v → pending v links u ≡ length (entering u (blocking (ordered v i links) (map edge_in edges))) + length (entering u some)

-- The order has n tasks, those of the tasks below w that no edge blocks; the first i of them were released, but for some edges.
pub record Sorting (v : ℕ) (edges links : List ℕ) (w i n : ℕ) (some : List Edge) : Type 0 where
  pub runs : Runs v edges links
  pub queue : Queue (map edge_in edges) w (ordered v n links) (pending v links)
  pub most : i ≤ n
  pub count : Blocked v edges links i some
