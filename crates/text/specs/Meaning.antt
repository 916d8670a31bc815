-- What the answers of the leaves mean.
use Rattle.std.specs.Prelude.{◌≡◌, ℕ, ◌+◌, ◌≤◌, List, ◌++◌, leb, ltb, length, drop, if◌then◌else◌, Option, Some, None, Result, Ok, Err}
use Rattle.definitions.specs.Limits.{Limits}
use Rattle.definitions.specs.Text.{Reading, Reader, found, refused, next, ◌>>=◌, ◌>>◌, return, due, line}
use Rattle.lists.specs.Over.{over}
use Rattle.text.specs.declared.refusal.Refusal.{Refusal}
use Rattle.text.specs.Numbers.{number_of}

-- A number that was read in the text s, or 2.
abbrev pub number_reading : List ℕ → Option (ℕ × ℕ) → Reading ℕ
number_reading s (Some (v, next)) = found v (drop next s)
number_reading s None = refused 2

-- The place after a number that was read in the text s is in it, or its end.
abbrev pub Placed : List ℕ → Option (ℕ × ℕ) → Type 0
Placed s (Some (v, next)) = next ≤ length s
Placed s None = Unit {0}

-- x was read in the text s up to a place, or the refusal.
abbrev pub place_reading : {A : Type 0} → List ℕ → A → Result ℕ Refusal → Reading A
place_reading s x (Ok next) = found x (drop next s)
place_reading s x (Err e) = refused (number_of e)

-- x was read, and the bytes s are left; or the refusal.
abbrev pub reading : {A : Type 0} → List ℕ → A → Result (Unit {0}) Refusal → Reading A
reading s x (Ok done) = found x s
reading s x (Err e) = refused (number_of e)

-- The number of a refusal that is due, 0 if none is.
abbrev pub due_of : Result (Unit {0}) Refusal → ℕ
due_of (Ok done) = 0
due_of (Err e) = number_of e

-- A reading of a list, with the members xs before it.
abbrev pub after : {A : Type 0} → List A → Reading (List A) → Reading (List A)
after xs r = next r (λ vs s. found (xs ++ vs) s)

-- The place after what was read is p.
abbrev pub PlacedAt : ℕ → Result ℕ Refusal → Type 0
PlacedAt p (Ok next) = next ≡ p
PlacedAt p (Err e) = Unit {0}

-- A line of k numbers into a slice of so many cells: 8 if it has fewer.
abbrev pub line_into : Limits → ℕ → List ℕ → ℕ → Reader (List ℕ)
line_into l room opening k s = if ltb room k then refused 8 else line l opening k s

-- One line of a kind, after the lines in `seen`: its form, then its rule.
abbrev pub ruled : {A : Type 0} → Reader A → (List A → A → ℕ) → List A → Reader A
ruled form rule seen = do
  a ← form
  due (rule seen a)
  return a

-- The output d after t was written from `at` on; as it was, if t does not fit.
abbrev pub written : List ℕ → ℕ → List ℕ → List ℕ
written d at t = if leb (at + length t) (length d) then over d at t else d

-- The place after t; the same place, if t does not fit.
abbrev pub place_after : List ℕ → ℕ → List ℕ → ℕ
place_after d at t = if leb (at + length t) (length d) then at + length t else at
