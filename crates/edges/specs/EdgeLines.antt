-- E lines into a memory.
use Rattle.std.specs.Prelude.{ℕ, List, [], Bool, ◌&&◌, leb, if◌then◌else◌}
use Rattle.definitions.specs.Limits.{Limits}
use Rattle.definitions.specs.Text.{Reader, refused, lines}
use Rattle.definitions.specs.Job.{Edge, edge_line, edge_rule}
use Rattle.edges.specs.declared.edge.Edge as Line

-- The edge whose numbers stand in a line.
abbrev pub edge_for : Line.Edge → Edge
edge_for e = record { from = e.from; to = e.to; volume = e.volume }

module _ (l : Limits) where
  -- n edge lines between v tasks, after those in `seen`.
  abbrev pub edge_lines : ℕ → ℕ → List Edge → Reader (List Edge)
  edge_lines v = lines (edge_line l) (edge_rule l v)

  -- No more than the most tasks, and as many cells as edges.
  abbrev pub edges_fit : ℕ → ℕ → ℕ → Bool
  edges_fit room v n = leb v l.tasks && leb n room

  -- n edges between v tasks into a memory of so many cells: 8 if they do not fit.
  unfoldable pub edges_into : ℕ → ℕ → ℕ → Reader (List Edge)
  edges_into room v n s = if edges_fit room v n then edge_lines v n [] s else refused 8
