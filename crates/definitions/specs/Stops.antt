-- A stop list: lines `S,box,tick` (1, 2, 3, 15).
use Rattle.std.specs.Prelude.{ℕ, Bool, false, not, ◌||◌, leb, ltb, length}
use mathlib.Core.List.{List, [], ◌∷◌, ◌++◌, get_last?}
use Rattle.std.proofs.Math.Option.{Option, none, some}
use Rattle.definitions.specs.Lists.{bytes, nth}
use Rattle.definitions.specs.Limits.{Limits}
use Rattle.definitions.specs.Text.{Reader, ◌>>=◌, return, first_of, line, line_text, lines_to_end, Result, whole}
use Rattle.definitions.specs.Job.{Job, outside}

-- A failure ("stop"): the processor and the tick at which it stops.
pub record Stop : Type 0 where
  pub processor : ℕ
  pub tick : ℕ

-- The numbers of an S line, in order.
abbrev pub stop_of : List ℕ → Stop
stop_of vs = record { processor = nth vs 0; tick = nth vs 1 }

-- "A stop line's box is not greater than the previous line's" (15).
abbrev pub not_after : Option Stop → Stop → Bool
not_after none s = false
not_after (some q) s = leb s.processor q.processor

module _ (l : Limits) where
  -- `S,box,tick`
  unfoldable pub stop_line : Reader Stop
  stop_line = do
    vs ← line l (bytes "S,") 2
    return (stop_of vs)

  -- A "box ≥ m", tick 0..4,294,967,295 (3); "boxes strictly ascending" (15).
  unfoldable pub stop_rule : Job → List Stop → Stop → ℕ
  stop_rule j seen s =
      first_of
      (
      (not (ltb s.processor j.processors) || outside 0 l.tick s.tick, 3)
      ∷ (not_after (get_last? seen) s, 15)
      ∷ []
      )

  -- "No line or more lines"; "the empty text means no stop".
  unfoldable pub read_stops : Job → List ℕ → Result (List Stop)
  read_stops j s = whole l (lines_to_end stop_line (stop_rule j) (length s) []) s

  -- A stop list as it is printed.
  unfoldable pub stops_text : List Stop → List ℕ
  stops_text [] = []
  stops_text (s ∷ ss) = line_text l (bytes "S,") (s.processor ∷ s.tick ∷ []) ++ stops_text ss
