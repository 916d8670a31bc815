-- An order of the tasks in which each comes after those that precede it.
use Rattle.std.specs.Prelude.{◌≡◌, ◌⊎◌, List, [], ◌∷◌, Bool, true, ◌&&◌, ℕ, zero, suc, ◌<◌, ltb}
use Rattle.definitions.specs.Lists.{nth, In, distinct}
use Rattle.definitions.specs.Job.{Edge}
use Rattle.orders.specs.Edges.{edge_in}

-- The edges are between tasks below v.
abbrev pub Within : ℕ → List Edge → Type 0
Within v es = (e : Edge) → In e es → (e.from < v) × (e.to < v)

-- Every edge leads to a task of a greater number.
abbrev pub Rising : List Edge → Type 0
Rising es = (e : Edge) → In e es → e.from < e.to

-- The first n tasks of a table, the last of them first.
unfoldable pub listed : List ℕ → ℕ → List ℕ
listed order zero = []
listed order (suc n) = nth order n ∷ listed order n

-- A table has n tasks below v, each once and after all that precede it; any other task below v is preceded by one that it lacks.
pub record Arranged (v : ℕ) (es : List Edge) (order : List ℕ) (n : ℕ) : Type 0 where
  pub task_of : (t : ℕ) → In t (listed order n) → t < v
  pub once : distinct (listed order n) ≡ true
  pub after : (k : ℕ) → k < n → (e : Edge) → In e es → e.to ≡ nth order k → In e.from (listed order k)
  pub rest : (t : ℕ) → t < v → In t (listed order n) ⊎ ((e : Edge) × In e es × (e.to ≡ t) × (In e.from (listed order n) → ⊥))

-- The edge in a cell is between tasks below v.
abbrev pub inner : ℕ → ℕ → Bool
inner v c = ltb (edge_in c).from v && ltb (edge_in c).to v
