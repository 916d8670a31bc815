-- "The three texts": numbers, fields and lines, read and printed; and how a refusal's number is found.
use Rattle.std.specs.Prelude.{ℕ, zero, suc, ◌+◌, ◌*◌, ◌-◌, ◌/◌, ◌%◌, ◌^◌, List, [], ◌∷◌, ◌++◌, Bool, ◌&&◌, leb, ltb, eqb, length, if◌then◌else◌}
use Rattle.definitions.specs.Limits.{Limits}

-- What reading gives: what was found and the rest of the text, or the number of the refusal.
pub data Reading (A : Type 0) : Type 0 where
  found : A → List ℕ → Reading A
  refused : ℕ → Reading A

-- A reader of A takes the text that is left.
abbrev pub Reader : Type 0 → Type 0
Reader A = List ℕ → Reading A

-- One thing read after another; the first refusal counts.
abbrev pub next : {A B : Type 0} → Reading A → (A → Reader B) → Reading B
next (found a s) f = f a s
next (refused n) f = refused n

infixl 10 ◌>>=◌
abbrev pub ◌>>=◌ : {A B : Type 0} → Reader A → (A → Reader B) → Reader B
r >>= f = λ s. next (r s) f

infixl 10 ◌>>◌
abbrev pub ◌>>◌ : {A B : Type 0} → Reader A → Reader B → Reader B
r >> q = λ s. next (r s) (λ a. q)

-- Nothing is read.
abbrev pub return : {A : Type 0} → A → Reader A
return a = λ s. found a s

-- Causes and numbers in the order in which they are tried: the first number whose cause is true, 0 if none is.
unfoldable pub first_of : List (Bool × ℕ) → ℕ
first_of [] = 0
first_of (row ∷ rows) = let later = first_of rows in if row.0 then row.1 else later

-- Read on if no refusal is due (0).
abbrev pub due : ℕ → Reader (Unit {0})
due zero = return tt
due (suc n) = λ s. refused (suc n)

-- A decimal digit, '0' to '9'.
abbrev pub is_digit : ℕ → Bool
is_digit b = leb 48 b && leb b 57

-- The digits that follow, at most k, after those that make the value n.
unfoldable pub digits : ℕ → ℕ → Reader ℕ
digits k n [] = found n []
digits k n (b ∷ s) =
    let more = digits (k - 1) (n * 10 + (b - 48)) s in
    if is_digit b then (if eqb k 0 then refused 2 else more) else found n (b ∷ s)

-- Fixed bytes, such as a line's opening; else the line is bad (2).
unfoldable pub exactly : List ℕ → Reader (Unit {0})
exactly [] s = found tt s
exactly (o ∷ os) [] = refused 2
exactly (o ∷ os) (b ∷ s) = let others = exactly os s in if eqb b o then others else refused 2

-- Fields are parted by commas, every line ends in one LF byte: what stands after a field that k more fields follow.
abbrev pub mark : ℕ → ℕ
mark k = if eqb k 0 then 10 else 44

-- "Its printed width comes from the ten powers of ten": the least of d, d + 1, .. d + k whose power of ten n does not reach.
unfoldable pub width_from : ℕ → ℕ → ℕ → ℕ
width_from zero d n = d
width_from (suc k) d n = let wider = width_from k (d + 1) n in if ltb n (10 ^ d) then d else wider

-- The d low decimal digits of n, the highest first.
unfoldable pub low_digits : ℕ → ℕ → List ℕ
low_digits zero n = []
low_digits (suc d) n = low_digits d (n / 10) ++ (48 + n % 10) ∷ []

module _ (l : Limits) where
  -- "A number has 1 to 10 decimal digits and no needless leading zero": after a 0 in front no digit follows (else 2).
  unfoldable pub number : Reader ℕ
  number [] = refused 2
  number (b ∷ s) = if is_digit b then digits (if eqb b 48 then 0 else l.digits - 1) (b - 48) s else refused 2

  -- "Fields are in a fixed order, parted by commas, without quoting": the k numbers that end a line.
  unfoldable pub numbers : ℕ → Reader (List ℕ)
  numbers zero = return []
  numbers (suc k) = do
    v ← number
    exactly (mark k ∷ [])
    vs ← numbers k
    return (v ∷ vs)

  -- A line: its opening and k numbers, "every line ends in one LF byte".
  unfoldable pub line : List ℕ → ℕ → Reader (List ℕ)
  line opening k = do
    exactly opening
    numbers k

  -- A number's printed width: 1 digit or more.
  unfoldable pub width : ℕ → ℕ
  width n = width_from (l.powers - 1) 1 n

  -- A number as it is printed.
  unfoldable pub decimal : ℕ → List ℕ
  decimal n = low_digits (width n) n

  -- The numbers that end a line, as they are printed.
  unfoldable pub numbers_text : List ℕ → List ℕ
  numbers_text [] = []
  numbers_text (v ∷ vs) = decimal v ++ mark (length vs) ∷ numbers_text vs

  -- A line as it is printed.
  unfoldable pub line_text : List ℕ → List ℕ → List ℕ
  line_text opening vs = opening ++ numbers_text vs

-- "Line by line, in a line 2, then 3, then its own rule": n lines of one kind, after the lines in `seen`. Reading a line
-- gives 2; then the rule, which knows the lines before it, gives the number of the refusal, or 0.
unfoldable pub lines : {A : Type 0} → Reader A → (List A → A → ℕ) → ℕ → List A → Reader (List A)
lines form rule zero seen = return seen
lines form rule (suc n) seen = do
  a ← form
  due (rule seen a)
  lines form rule n (seen ++ a ∷ [])

-- The first reader at the end of the text, else the second.
abbrev pub at_end : {A : Type 0} → Reader A → Reader A → Reader A
at_end r q [] = r []
at_end r q (b ∷ s) = q (b ∷ s)

-- Lines to the end of the text. A text has no more lines than bytes, so its length serves for n.
unfoldable pub lines_to_end : {A : Type 0} → Reader A → (List A → A → ℕ) → ℕ → List A → Reader (List A)
lines_to_end form rule zero seen = return seen
lines_to_end form rule (suc n) seen = at_end (return seen) do
  a ← form
  due (rule seen a)
  lines_to_end form rule n (seen ++ a ∷ [])

-- What a whole text says, or the number of its refusal.
pub data Result (A : Type 0) : Type 0 where
  good : A → Result A
  bad : ℕ → Result A

-- "Order: the job entirely, then the plan, then the stops, then 8": the first refusal counts.
abbrev pub and_then : {A B : Type 0} → Result A → (A → Result B) → Result B
and_then (good a) f = f a
and_then (bad n) f = bad n

-- A number that is due after a text's last line (0: none).
abbrev pub unless : {A : Type 0} → ℕ → A → Result A
unless zero a = good a
unless (suc n) a = bad (suc n)

-- "A line left over gets its 2".
abbrev pub ended : {A : Type 0} → Reading A → Result A
ended (found a []) = good a
ended (found a (b ∷ s)) = bad 2
ended (refused n) = bad n

-- "In a text: 1; then line by line".
abbrev pub whole : {A : Type 0} → Limits → Reader A → List ℕ → Result A
whole l r s = if ltb l.text_length (length s) then bad 1 else ended (r s)
