-- Edges, one in a cell.
use Rattle.std.specs.Prelude.{ℕ, ◌+◌, ◌*◌, ◌/◌, ◌%◌}
use Rattle.definitions.specs.Job.{Edge}

-- An edge in one cell: a task number is kept in one byte, from in the lowest and to in the next; then the volume.
abbrev pub edge_cell : Edge → ℕ
edge_cell e = e.from + 256 * e.to + 65536 * e.volume

-- The edge that a cell holds.
abbrev pub edge_in : ℕ → Edge
edge_in c = record { from = c % 256; to = c / 256 % 256; volume = c / 65536 }

-- The pair of the edge in a cell as one number: by from, then by to.
abbrev pub pair_in : ℕ → ℕ
pair_in c = (edge_in c).from * 256 + (edge_in c).to
