-- The job in memory: the numbers of its lines, in the text's order, one cell each; an edge takes one cell.
use Rattle.std.specs.Prelude.{ℕ, suc, List, [], ◌∷◌, ◌++◌, map, length}
use Rattle.definitions.specs.Job.{Job}
use Rattle.orders.specs.Edges.{edge_cell}

-- Rows one after another, each with its number in front, counted from k.
unfoldable pub numbered : ℕ → List (List ℕ) → List ℕ
numbered k [] = []
numbered k (r ∷ rs) = (k ∷ r) ++ numbered (suc k) rs

-- All cells of a job: v, m, e, ε; the C lines; the D lines; the edges.
unfoldable pub job_cells : Job → List ℕ
job_cells j =
    (j.tasks ∷ j.processors ∷ length j.edges ∷ j.losses ∷ [])
    ++ numbered 0 j.runs
    ++ numbered 0 j.delays
    ++ map edge_cell j.edges
