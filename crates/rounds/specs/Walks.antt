-- The edges that enter a task, and the lines that feed them.
use Rattle.std.specs.Prelude.{◌≡◌, List, ℕ, ◌+◌, ◌*◌, ◌<◌, ◌≤◌}
use Rattle.definitions.specs.Lists.{nth}
use Rattle.definitions.specs.Limits.{Limits}
use Rattle.definitions.specs.Job.{Edge}
use Rattle.heads.specs.Layout.{line_at, largest_delay_at}
use Rattle.plans.specs.Lines.{row_end, row_of, RowHeld}

-- What a line gives that the code asks for: the edge leaves a task that has a line.
pub record Feeds (l : Limits) (capacity : ℕ) (e : Edge) (mem : List ℕ) : Type 0 where
  pub from_below : e.from < nth mem 0
  pub volume_most : e.volume ≤ l.volume
  pub line_some : 0 < nth mem (line_at capacity + e.from)
  pub line_most : nth mem (line_at capacity + e.from) ≤ 8 * capacity
  pub row : RowHeld l (row_of capacity e.from mem) mem

-- Its task's line and its volume, as the code may ask them.
pub record Entered (l : Limits) (capacity : ℕ) (e : Edge) (mem : List ℕ) (row volume : ℕ) : Type 0 where
  pub row_of : row ≡ row_of capacity e.from mem
  pub within : row_end row ≤ largest_delay_at capacity
  pub held : RowHeld l row mem
  pub volume_of : volume ≡ e.volume
  pub little : volume ≤ l.volume
