-- The numbers that end a line, and lines, at a place of a text.
use Rattle.lists.proofs.Prelude.{◌≡◌, refl, ap, sym, ◌∙◌, List, [], ◌∷◌, ◌++◌, append_assoc, append-nil, ℕ, zero, suc, ◌+◌, ◌-◌, ◌<◌, ◌≤◌, arith, add-one, lt-leb, le-leb, lt-ltb, le-ltb, length, take, drop, set, drop-set-lt, length-set, sub-zero, Limits, Reading, Reader, found, refused, next, due, number, exactly, numbers, line, lines, mark}
use Prim.Native.Nat.compare
use Rattle.std.proofs.Common.{take-suc-set}
use Rattle.definitions.specs.Lists.{empty}
use Rattle.std.specs.Prelude.{leb, Option, Some, None, Result, Ok, Err}
use Rattle.text.specs.Numbers.{number_of}
use Rattle.text.specs.Meaning.{number_reading, place_reading, reading, due_of, after, line_into, ruled}
use Rattle.text.proofs.Refusals.{positive}
use Rattle.text.specs.declared.refusal.Refusal.{Refusal}

-- No byte is left from the place i on.
pub at_end : (s : List ℕ) (i : ℕ) → leb (length s) i ≡ empty (drop i s)
at_end [] zero = refl
at_end [] (suc i) = le-leb 0 (suc i) (omega arith)
at_end (b ∷ s) zero = lt-leb (suc (length s)) 0 (omega arith)
at_end (b ∷ s) (suc i) = rw compare.suc-suc (at_end s i)

-- A reading of a list with no members before it.
pub after_none : {A : Type 0} (r : Reading (List A)) → after [] r ≡ r
after_none (found vs s) = refl
after_none (refused n) = refl

-- One more before it.
after_more : {A : Type 0} (xs : List A) (v : A) (r : Reading (List A)) → after (xs ++ v ∷ []) r ≡ after xs (next r (λ vs s. found (v ∷ vs) s))
after_more xs v (found vs s) = ap (λ l. found l s) (append_assoc xs (v ∷ []) vs)
after_more xs v (refused n) = refl

left : (n i : ℕ) → i < n → n - i ≡ suc (n - (i + 1))
left n i h = omega arith

-- Of the k numbers that end a line, which are G, i were read up to the place p of the text s, into vals, which had been `old`.
pub record NumbersUpTo (l : Limits) (s : List ℕ) (k : ℕ) (old : List ℕ) (G : Reading (List ℕ)) (i : ℕ) (vals : List ℕ) (p : ℕ) : Type 0 where
  pub count : i ≤ k
  pub size : length vals ≡ length old
  pub rest : after (take i vals) (numbers l (k - i) (drop p s)) ≡ G
  pub kept : drop k vals ≡ drop k old

module _ {l : Limits} {s : List ℕ} {k : ℕ} {old : List ℕ} {G : Reading (List ℕ)} {i : ℕ} {vals : List ℕ} {p : ℕ} (u : NumbersUpTo l s k old G i vals p) where
  pub numbers_end : k ≤ i → (found (take k vals) (drop p s) ≡ G) × (drop k vals ≡ drop k old)
  unfolding numbers
  numbers_end h =
      let f : k ≡ i = omega (arith, u.count) in
      let e : k - i ≡ 0 = omega arith in
      (rw (f, ← append-nil (take i vals)) (rw e at u.rest), u.kept)

  -- The next number was read, with the answer r.
  module _ (h : i < k) (r : Option (ℕ × ℕ)) (e : number_reading s r ≡ number l (drop p s)) where
    pub numbers_bad : r ≡ None → (refused 2 ≡ G) × (drop k vals ≡ drop k old)
    unfolding numbers
    numbers_bad f =
        let g : number l (drop p s) ≡ refused 2 = sym e ∙ ap (number_reading s) f in
        (rw (left k i h, g) at u.rest, u.kept)

    module _ (v n : ℕ) (f : r ≡ Some (v, n)) where
      number_at : number l (drop p s) ≡ found v (drop n s)
      number_at = sym e ∙ ap (number_reading s) f

      -- The byte b after it was read, with the answer x.
      module _ (x : Result ℕ Refusal) (b : ℕ) (g : place_reading s tt x ≡ exactly (b ∷ []) (drop n s)) (j : b ≡ mark (k - (i + 1))) where
        pub numbers_no : (y : Refusal) → x ≡ Err y → (refused (number_of y) ≡ G) × (drop k (set vals i v) ≡ drop k old)
        unfolding numbers
        numbers_no y m =
            let a : exactly (b ∷ []) (drop n s) ≡ refused (number_of y) = sym g ∙ ap (place_reading s tt) m in
            (rw (left k i h, number_at, ← j, a) at u.rest, drop-set-lt k vals i v h ∙ u.kept)

        pub numbers_next : (q : ℕ) → x ≡ Ok q → k ≤ length old → NumbersUpTo l s k old G (i + 1) (set vals i v) q
        unfolding numbers
        numbers_next q m o =
            let a : exactly (b ∷ []) (drop n s) ≡ found tt (drop q s) = sym g ∙ ap (place_reading s tt) m in
            let t : take (i + 1) (set vals i v) ≡ take i vals ++ v ∷ [] = rw add-one (take-suc-set vals i v (omega (arith, u.size))) in
            let c = rw (left k i h, number_at, ← j, a) at u.rest in
            record {
              count = omega arith;
              size = length-set vals i v ∙ u.size;
              rest = rw t (after_more (take i vals) v (numbers l (k - (i + 1)) (drop q s)) ∙ c);
              kept = drop-set-lt k vals i v h ∙ u.kept;
            }

module _ (l : Limits) (opening : List ℕ) (k : ℕ) (s : List ℕ) where
  pub line_open : (r : List ℕ) → exactly opening s ≡ found tt r → numbers l k r ≡ line l opening k s
  unfolding line
  line_open r e = rw e

  pub line_no : (n : ℕ) → exactly opening s ≡ refused n → refused n ≡ line l opening k s
  unfolding line
  line_no n e = rw e

-- The slice has k cells, or not.
module _ (l : Limits) (room : ℕ) (opening : List ℕ) (k : ℕ) (s : List ℕ) where
  pub line_fits : k ≤ room → line_into l room opening k s ≡ line l opening k s
  line_fits h = rw (le-ltb room k h)

  -- What is said of a line that was read into it, with the answer x.
  pub line_reading : (t ys : List ℕ) (r x : Result (Unit {0}) Refusal) → reading t (take k ys) r ≡ line_into l room opening k s → k ≤ room → r ≡ x
      → line l opening k s ≡ reading t (take k ys) x
  line_reading t ys r x e h f = sym (e ∙ line_fits h) ∙ ap (reading t (take k ys)) f

  pub line_unfit : room < k → line_into l room opening k s ≡ refused 8
  line_unfit h = rw (lt-ltb room k h)

-- Read on if no refusal is due.
due_no : {A : Type 0} (n : ℕ) (q : Reader A) (s : List ℕ) → 0 < n → refused n ≡ next (due n s) (λ _. q)
due_no zero q s h = absurd (omega arith)
due_no (suc n) q s h = refl

-- One line of a kind, after the lines in `seen`.
module _ {A : Type 0} (form : Reader A) (rule : List A → A → ℕ) (seen : List A) (s : List ℕ) where
  pub ruled_bad : (x : ℕ) → form s ≡ refused x → refused x ≡ ruled form rule seen s
  ruled_bad x e = rw e

  module _ (a : A) (r : List ℕ) (e : form s ≡ found a r) (x : ℕ) (f : x ≡ rule seen a) where
    pub ruled_no : 0 < x → refused x ≡ ruled form rule seen s
    ruled_no g = rw (e, ← f) (due_no x (λ q. found a q) r g)

    pub ruled_yes : x ≤ 0 → found a r ≡ ruled form rule seen s
    ruled_yes g = let z : rule seen a ≡ 0 = omega arith in rw (e, z)

  -- It was found, and its rule gave the answer x.
  pub line_judged : (a : A) (r : List ℕ) → form s ≡ found a r → (x : Result (Unit {0}) Refusal) → due_of x ≡ rule seen a → reading r a x ≡ ruled form rule seen s
  line_judged a r e (Ok done) f = ruled_yes a r e 0 f (omega arith)
  line_judged a r e (Err n) f = ruled_no a r e (number_of n) f (positive n)

  -- It, and what is read after it.
  pub ruled_then : {B : Type 0} (k : A → Reader B) → next (form s) (λ a r. next (due (rule seen a) r) (λ _. k a)) ≡ next (ruled form rule seen s) k
  ruled_then k = by (form s)
    where
      judged : (a : A) (r : List ℕ) (x : ℕ) → next (due x r) (λ _. k a) ≡ next (next (due x r) (λ _ q. found a q)) k
      judged a r zero = refl
      judged a r (suc x) = refl

      by : (q : Reading A) → next q (λ a r. next (due (rule seen a) r) (λ _. k a)) ≡ next (next q (λ a r. next (due (rule seen a) r) (λ _ p. found a p))) k
      by (found a r) = judged a r (rule seen a)
      by (refused x) = refl

-- Lines of one kind: `seen` were read, i of n, and s is the rest.
module _ {A : Type 0} (form : Reader A) (rule : List A → A → ℕ) (n i : ℕ) (seen : List A) (s : List ℕ) where
  pub lines_end : n ≤ i → found seen s ≡ lines form rule (n - i) seen s
  unfolding lines
  lines_end h = let e : n - i ≡ 0 = omega arith in rw e

  module _ (h : i < n) where
    -- One line, and the lines after it.
    one_line : lines form rule (n - i) seen s ≡ next (ruled form rule seen s) (λ a. lines form rule (n - (i + 1)) (seen ++ a ∷ []))
    unfolding lines
    one_line = rw (left n i h) (ruled_then form rule seen s (λ a. lines form rule (n - (i + 1)) (seen ++ a ∷ [])))

    pub lines_no : (x : ℕ) → ruled form rule seen s ≡ refused x → refused x ≡ lines form rule (n - i) seen s
    lines_no x e = sym (one_line ∙ rw e)

    pub lines_next : (a : A) (r : List ℕ) → ruled form rule seen s ≡ found a r → lines form rule (n - (i + 1)) (seen ++ a ∷ []) r ≡ lines form rule (n - i) seen s
    lines_next a r e = sym (one_line ∙ rw e)

-- Of n lines of one kind at the front of the text `start`, i were read: `seen`; the text s is left.
pub record LinesUpTo {A : Type 0} (form : Reader A) (rule : List A → A → ℕ) (start : List ℕ) (n i : ℕ) (seen : List A) (s : List ℕ) : Type 0 where
  pub rest : lines form rule (n - i) seen s ≡ lines form rule n [] start

module _ {A : Type 0} {form : Reader A} {rule : List A → A → ℕ} {start : List ℕ} {n : ℕ} where
  pub lines_none : LinesUpTo form rule start n 0 [] start
  lines_none = record { rest = rw sub-zero }

  module _ {i : ℕ} {seen : List A} {s : List ℕ} (u : LinesUpTo form rule start n i seen s) where
    pub lines_read : n ≤ i → found seen s ≡ lines form rule n [] start
    lines_read h = lines_end form rule n i seen s h ∙ u.rest

    -- The next line was read, with the answer r; the text q is left.
    module _ (h : i < n) (a : A) (q : List ℕ) {r : Result (Unit {0}) Refusal} (e : reading q a r ≡ ruled form rule seen s) where
      pub lines_refused : {x : Refusal} → r ≡ Err x → refused (number_of x) ≡ lines form rule n [] start
      lines_refused f = lines_no form rule n i seen s h _ (sym e ∙ ap (reading q a) f) ∙ u.rest

      pub lines_more : {x : Unit {0}} → r ≡ Ok x → LinesUpTo form rule start n (i + 1) (seen ++ a ∷ []) q
      lines_more f = record { rest = lines_next form rule n i seen s h a _ (sym e ∙ ap (reading q a) f) ∙ u.rest }
