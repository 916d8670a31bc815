-- What is asked of the replicas of a line, three cells each: processor, early time, late time.
use Rattle.std.specs.Prelude.{ℕ, zero, suc, ◌+◌, ◌*◌, ◌-◌, ◌/◌, List, [], ◌∷◌, Bool, false, ◌&&◌, ◌||◌, eqb, ltb, length, take, drop, if◌then◌else◌, Option, Some, None}
use Rattle.definitions.specs.Lists.{nth, empty}
use Rattle.ticks.specs.Cells.{never_cell}

-- In the cells of replicas, the processor of replica c, that of the next one, and its early time.
abbrev pub on_cell : ℕ → ℕ
on_cell c = 3 * c

abbrev pub next_cell : ℕ → ℕ
next_cell c = 3 * c + 3

abbrev pub early_cell : ℕ → ℕ
early_cell c = 3 * c + 1

-- How many replicas so many cells have.
abbrev pub replicas_of : ℕ → ℕ
replicas_of n = n / 3

-- In the cells of lines, the task of line k; how many lines so many cells have.
abbrev pub line_cell : ℕ → ℕ
line_cell k = k * 25

abbrev pub lines_of : ℕ → ℕ
lines_of n = n / 25

-- One of the first n replicas is on the processor of the one after it.
unfoldable pub twins : ℕ → List ℕ → Bool
twins zero cells = false
twins (suc c) cells = twins c cells || eqb (nth cells (on_cell c)) (nth cells (next_cell c))

-- Two neighbouring replicas are on one processor: where processors do not descend, "two copies on one box" (12).
abbrev pub twice : List ℕ → Bool
twice cells = twins (replicas_of (length cells) - 1) cells

-- The cells of the first w replicas of line k, of lines of which each has as many cells.
abbrev pub cells_of : ℕ → ℕ → List ℕ → List ℕ
cells_of w k lines = take (on_cell w) (drop (line_cell k + 1) lines)

-- The task of the first of n lines that has two neighbouring replicas on one processor, if there is one.
unfoldable pub first_twice : ℕ → ℕ → List ℕ → List ℕ
first_twice w zero lines = []
first_twice w (suc k) lines =
    let before = first_twice w k lines in
    if empty before && twice (cells_of w k lines) then nth lines (line_cell k) ∷ [] else before

-- That task, for each case of the answer.
abbrev pub doubled_in : Option ℕ → List ℕ
doubled_in None = []
doubled_in (Some t) = t ∷ []

-- The least early time of the first n replicas: a first finish, if early times are those of a replay.
unfoldable pub least_early : ℕ → List ℕ → ℕ
least_early zero cells = never_cell
least_early (suc c) cells = if ltb (nth cells (early_cell c)) (least_early c cells) then nth cells (early_cell c) else least_early c cells

-- The processor of the first of them that has it; 0 if all never finish.
unfoldable pub least_on : ℕ → List ℕ → ℕ
least_on zero cells = 0
least_on (suc c) cells = if ltb (nth cells (early_cell c)) (least_early c cells) then nth cells (on_cell c) else least_on c cells
