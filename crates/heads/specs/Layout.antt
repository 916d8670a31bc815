-- Where things stand in a working memory, in cells. Capacity 1 is for 8 tasks, 32 edges and 177 of the job's cells: a table begins at a
-- constant times the capacity, and is as many times as long as in a memory of capacity 1. The job is at the front.
use Rattle.std.specs.Prelude.{ℕ, ◌+◌, ◌*◌, ◌≤◌, Bool, ◌&&◌, leb, if◌then◌else◌}
use Rattle.definitions.specs.Limits.{Limits}
use Rattle.definitions.specs.Job.{JobHead}

-- All cells.
abbrev pub memory_size : ℕ → ℕ
memory_size capacity = 425 * capacity

-- The cells that are lent beside it for the links between the job's edges.
abbrev pub links_room : ℕ → ℕ
links_room capacity = 68 * capacity

-- The cells that a job may take.
abbrev pub job_size : ℕ → ℕ
job_size capacity = 177 * capacity

-- The job's cells: its head, then a row for each C line and for each D line, with its own number in front, then a cell for each E line.
-- Where row r begins if there are m processors, counted over the C lines and then the D lines.
abbrev pub numbers_at : ℕ → ℕ → ℕ
numbers_at m r = 4 + r * (1 + m)

-- Where the D lines' cells begin.
abbrev pub delays_at : JobHead → ℕ
delays_at h = numbers_at h.processors h.tasks

-- Where the E lines' cells begin.
abbrev pub edges_at : JobHead → ℕ
edges_at h = numbers_at h.processors (h.tasks + h.processors)

-- The cells of a job with this head.
abbrev pub cells_for : JobHead → ℕ
cells_for h = edges_at h + h.edges

-- A job with this head fits a memory of this capacity.
abbrev pub FitsIn : ℕ → JobHead → Type 0
FitsIn capacity h = (h.tasks ≤ 8 * capacity) × (h.edges ≤ 32 * capacity) × (cells_for h ≤ job_size capacity)

-- The test for it.
unfoldable pub has_room : ℕ → JobHead → Bool
has_room capacity h = leb h.tasks (8 * capacity) && leb h.edges (32 * capacity) && leb (cells_for h) (job_size capacity)

-- The capacity that a job with this head is given: 1, 2 or 8 if the job fits it, else 32.
unfoldable pub capacity_for : JobHead → ℕ
capacity_for h = if has_room 1 h then 1 else (if has_room 2 h then 2 else (if has_room 8 h then 8 else 32))

-- The head of the largest job.
abbrev pub largest : Limits → JobHead
largest l = record { tasks = l.tasks; processors = l.processors; edges = l.edges; losses = l.losses }

-- Bottom levels by task.
abbrev pub level_at : ℕ → ℕ
level_at capacity = 177 * capacity

-- For each task its line in the plan, counted from 1; 0 if it is not placed.
abbrev pub line_at : ℕ → ℕ
line_at capacity = 185 * capacity

-- For each task the number of its edges from tasks that are not placed.
abbrev pub blocked_at : ℕ → ℕ
blocked_at capacity = 193 * capacity

-- For each free task its priority.
abbrev pub priority_at : ℕ → ℕ
priority_at capacity = 201 * capacity

-- The replicas that a line of the plan has cells for.
abbrev pub replicas_most : ℕ
replicas_most = 8

-- The cells of a line: the task, then processor, early and late for each replica.
abbrev pub row_cells : ℕ
row_cells = 1 + 3 * replicas_most

-- The plan's lines.
abbrev pub row_at : ℕ → ℕ → ℕ
row_at capacity i = 209 * capacity + i * row_cells

-- In the line at a, replica c: its processor, its early and its late time; the place after it.
abbrev pub processor_at : ℕ → ℕ → ℕ
processor_at a c = a + (1 + 3 * c)

abbrev pub early_at : ℕ → ℕ → ℕ
early_at a c = a + (2 + 3 * c)

abbrev pub late_at : ℕ → ℕ → ℕ
late_at a c = a + (3 + 3 * c)

abbrev pub replica_end : ℕ → ℕ → ℕ
replica_end a c = a + (4 + 3 * c)

-- Its late time or its early one.
abbrev pub time_at : Bool → ℕ → ℕ → ℕ
time_at late a c = a + ((if late then 3 else 2) + 3 * c)

-- The processors that a memory has cells for, and a table of ticks a lane.
abbrev pub lanes_most : ℕ
lanes_most = 16

-- For each processor its largest delay to any processor, after the last line.
abbrev pub largest_delay_at : ℕ → ℕ
largest_delay_at capacity = 409 * capacity

-- M* of a plan that is complete, where the counts of blocking edges stood.
abbrev pub lower_at : ℕ → ℕ
lower_at capacity = 193 * capacity

-- M of that plan, in the same table.
abbrev pub upper_at : ℕ → ℕ
upper_at capacity = 194 * capacity
