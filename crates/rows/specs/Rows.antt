-- Rows of numbers in a memory, and what C and D lines take.
use Rattle.std.specs.Prelude.{ℕ, zero, suc, ◌*◌, List, [], ◌∷◌, ◌++◌, Bool, ◌&&◌, ltb, leb, take, drop, if◌then◌else◌}
use Rattle.definitions.specs.Limits.{Limits}
use Rattle.definitions.specs.Text.{Reader, refused, line, lines}
use Rattle.definitions.specs.Job.{outside, run_rule, delay_rule}
use Rattle.rows.specs.declared.Kind.{Kind}
use Rattle.rows.specs.declared.Kind.TheVariants.{Runs, Delays}

-- n rows of k numbers, one after another from the front of a memory.
unfoldable pub rows : ℕ → ℕ → List ℕ → List (List ℕ)
rows k zero mem = []
rows k (suc n) mem = rows k n mem ++ take k (drop (n * k) mem) ∷ []

-- n rows of k numbers are wide enough for their kind: their own number in front; of delays, one for each row after it.
abbrev pub wide : Kind → ℕ → ℕ → Bool
wide Runs k n = ltb 0 k
wide Delays k n = ltb n k

module _ (l : Limits) where
  -- What a kind of row does not take: a number outside its range.
  abbrev pub stray_of : Kind → ℕ → Bool
  stray_of Runs = outside 1 l.run_time
  stray_of Delays = outside 0 l.delay

  -- The rule of a kind of row.
  abbrev pub rule_of : Kind → List (List ℕ) → List ℕ → ℕ
  rule_of Runs = run_rule l
  rule_of Delays = delay_rule l

  -- n lines of a kind, of k numbers, after those in `seen`.
  abbrev pub row_lines : Kind → List ℕ → ℕ → ℕ → List (List ℕ) → Reader (List (List ℕ))
  row_lines kind opening k = lines (line l opening k) (rule_of kind)

  -- The same into a memory of so many cells: 8 if the rows are too narrow for their kind, or do not fit it.
  unfoldable pub rows_into : ℕ → Kind → List ℕ → ℕ → ℕ → Reader (List (List ℕ))
  rows_into room kind opening k n s = if wide kind k n && leb (n * k) room then row_lines kind opening k n [] s else refused 8
