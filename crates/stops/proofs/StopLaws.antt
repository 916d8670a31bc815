-- Stop lists: lines to the end of a text, the rule of a stop line, and stop ticks in cells.
use Rattle.std.specs.Prelude.{if◌then◌else◌, Result, Ok, Err}
use Rattle.lists.proofs.Prelude.{◌≡◌, refl, sym, ◌∙◌, ◌⊎◌, inl, inr, ⊎_elim, List, [], ◌∷◌, ◌++◌, get_last?, none, some, Bool, true, false, ℕ, zero, suc, ◌+◌, ◌-◌, ◌*◌, ◌<◌, ◌≤◌, arith, ltb-true, ltb-false, lt-ltb, le-ltb, lt-leb, le-leb, eq-eqb, ne_eqb, eqb, ltb, leb, length, set, take, length-set, get_or-take, get_or-set_same, get_or-set_other, bytes, empty, nth, Limits, Reader, found, refused, next, return, first_of, is_digit, digits, number, exactly, mark, numbers, line, ended, Job, Stop, read_stops, tick, never, stop_time}
use mathlib.Core.Option.{Option}
use Rattle.definitions.specs.Text.{lines_to_end}
use Rattle.definitions.specs.Text as Text
use Rattle.definitions.specs.Stops.{stop_of, not_after, stop_line, stop_rule}
use Rattle.definitions.specs.Facts.{after_last}
use Rattle.definitions.proofs.Lists.{last_of}
use Rattle.definitions.proofs.Reading.{next_found}
use Rattle.text.specs.Suited.{Suited}
use Rattle.text.specs.Numbers.{number_of}
use Rattle.text.specs.Meaning.{line_into, ruled}
use Rattle.text.proofs.Refusals.{positive}
use Rattle.text.specs.declared.refusal.Refusal.{Refusal}
use Rattle.text.specs.declared.refusal.Refusal.TheVariants.{TooLong, NoRoom}
use Rattle.ticks.specs.Cells.{never_cell, time_in, Small}
use Rattle.lines.proofs.LineLaws.{line_fits, ruled_bad, ruled_no, ruled_yes, ruled_then}
use Rattle.lists.proofs.Counting.{equal_or_not}
use Rattle.stops.specs.Loading.{stops_from, stop_lines, StopRuled, StopsLoaded}

-- What is left of a text after a line is shorter --------------------------------------------------------------------

digits_shorter : (k n : ℕ) (s : List ℕ) (v : ℕ) (r : List ℕ) → digits k n s ≡ found v r → length r ≤ length s
unfolding digits
digits_shorter k n [] v r h = let e : r ≡ [] = cc in rw e (omega arith)
digits_shorter k n (b ∷ s) v r h = by (is_digit b) (eqb k 0) h (digits_shorter (k - 1) (n * 10 + (b - 48)) s v r)
  where
    by : (d z : Bool) → (if d then (if z then refused 2 else digits (k - 1) (n * 10 + (b - 48)) s) else found n (b ∷ s)) ≡ found v r
        → (digits (k - 1) (n * 10 + (b - 48)) s ≡ found v r → length r ≤ length s) → length r ≤ suc (length s)
    by true true h f = absurd cc
    by true false h f = omega (arith, f h)
    by false z h f = let e : r ≡ b ∷ s = cc in rw e (omega arith)

exactly_shorter : (o s : List ℕ) (u : Unit {0}) (r : List ℕ) → exactly o s ≡ found u r → length s ≡ length o + length r
unfolding exactly
exactly_shorter [] s u r h = let e : r ≡ s = cc in rw e (omega arith)
exactly_shorter (b ∷ o) [] u r h = absurd cc
exactly_shorter (b ∷ o) (c ∷ s) u r h = by (eqb c b) h (exactly_shorter o s u r)
  where
    by : (t : Bool) → (if t then exactly o s else refused 2) ≡ found u r
        → (exactly o s ≡ found u r → length s ≡ length o + length r) → suc (length s) ≡ suc (length o) + length r
    by true h f = omega (arith, f h)
    by false h f = absurd cc

module _ (l : Limits) where
  number_shorter : (s : List ℕ) (v : ℕ) (r : List ℕ) → number l s ≡ found v r → length r ≤ length s
  unfolding number
  number_shorter [] v r h = absurd cc
  number_shorter (b ∷ s) v r h = by (is_digit b) h
    where
      by : (d : Bool) → (if d then digits (if eqb b 48 then 0 else l.digits - 1) (b - 48) s else refused 2) ≡ found v r → length r ≤ suc (length s)
      by true h = omega (arith, digits_shorter (if eqb b 48 then 0 else l.digits - 1) (b - 48) s v r h)
      by false h = absurd cc

  numbers_shorter : (k : ℕ) (s vs r : List ℕ) → numbers l k s ≡ found vs r → length r ≤ length s
  unfolding numbers
  numbers_shorter zero s vs r h = let e : r ≡ s = cc in rw e (omega arith)
  numbers_shorter (suc k) s vs r h =
      let (v, s1, e1, h1) = next_found (number l s) (λ v s. next (exactly (mark k ∷ []) s) (λ _ s. next (numbers l k s) (λ vs. return (v ∷ vs)))) vs r h in
      let (u, s2, e2, h2) = next_found (exactly (mark k ∷ []) s1) (λ _ s. next (numbers l k s) (λ vs. return (v ∷ vs))) vs r h1 in
      let (ws, s3, e3, h3) = next_found (numbers l k s2) (λ vs. return (v ∷ vs)) vs r h2 in
      let e : r ≡ s3 = cc in
      rw e (omega (arith, number_shorter s v s1 e1, exactly_shorter (mark k ∷ []) s1 u s2 e2, numbers_shorter k s2 ws s3 e3))

  -- A line takes its opening at the least.
  line_shorter : (opening : List ℕ) (k : ℕ) (s vs r : List ℕ) → line l opening k s ≡ found vs r → length opening + length r ≤ length s
  unfolding line
  line_shorter opening k s vs r h =
      let (u, s', e, g) = next_found (exactly opening s) (λ _. numbers l k) vs r h in
      omega (arith, exactly_shorter opening s u s' e, numbers_shorter k s' vs r g)

-- Lines to the end of a text -----------------------------------------------------------------------------------------

some_left : (s : List ℕ) → empty s ≡ false → 0 < length s
some_left [] h = absurd cc
some_left (b ∷ s) h = omega arith

-- At most n lines more, after those in `seen`; s is the rest of the text.
module _ {A : Type 0} (form : Reader A) (rule : List A → A → ℕ) (seen : List A) where
  to_end : (n : ℕ) (s : List ℕ) → empty s ≡ true → found seen [] ≡ lines_to_end form rule n seen s
  unfolding lines_to_end
  to_end zero [] h = refl
  to_end (suc n) [] h = refl
  to_end n (b ∷ s) h = absurd cc

  one_line : (n : ℕ) (s : List ℕ) → empty s ≡ false
      → lines_to_end form rule (suc n) seen s ≡ next (ruled form rule seen s) (λ a. lines_to_end form rule n (seen ++ a ∷ []))
  unfolding lines_to_end
  one_line n [] h = absurd cc
  one_line n (b ∷ s) h = ruled_then form rule seen (b ∷ s) (λ a. lines_to_end form rule n (seen ++ a ∷ []))

  module _ (n : ℕ) (s : List ℕ) (h : empty s ≡ false) where
    to_no : (x : ℕ) → refused x ≡ ruled form rule seen s → refused x ≡ lines_to_end form rule (suc n) seen s
    to_no x e = sym (one_line n s h ∙ rw (← e))

    to_next : (a : A) (r : List ℕ) → found a r ≡ ruled form rule seen s
        → lines_to_end form rule n (seen ++ a ∷ []) r ≡ lines_to_end form rule (suc n) seen s
    to_next a r e = sym (one_line n s h ∙ rw (← e))

-- The rule of a stop line --------------------------------------------------------------------------------------------

not_after_lem : (q : Option Stop) (s : Stop) → not_after q s ≡ ltb s.processor (after_last q)
not_after_lem none s = sym (le-ltb s.processor 0 (omega arith))
not_after_lem (some q) s = by (ltb s.processor (1 + q.processor)) refl
  where
    by : (b : Bool) → ltb s.processor (1 + q.processor) ≡ b → leb s.processor q.processor ≡ b
    by true e = le-leb s.processor q.processor (omega (arith, ltb-true))
    by false e = lt-leb s.processor q.processor (omega (arith, ltb-false))

-- For m processors, of which those from `least` on may come.
module _ (l : Limits) (j : Job) (seen : List Stop) (s : Stop) {m least : ℕ} (p : j.processors ≡ m) (q : after_last (get_last? seen) ≡ least) where
  pub stop_astray : (m ≤ s.processor) ⊎ ((s.processor < m) × (l.tick < s.tick)) → 3 ≡ stop_rule l j seen s
  unfolding stop_rule first_of
  stop_astray (inl h) = rw (p, le-ltb _ _ h)
  stop_astray (inr (h, g)) = rw (p, lt-ltb _ _ h, le-ltb s.tick 0 (omega arith), lt-ltb _ _ g)

  module _ (h : s.processor < m) (g : s.tick ≤ l.tick) where
    pub stop_order : s.processor < least → 15 ≡ stop_rule l j seen s
    unfolding stop_rule first_of
    stop_order f = rw (p, lt-ltb _ _ h, le-ltb s.tick 0 (omega arith), le-ltb _ _ g, not_after_lem (get_last? seen) s, q, lt-ltb _ _ f)

    pub stop_good : least ≤ s.processor → 0 ≡ stop_rule l j seen s
    unfolding stop_rule first_of
    stop_good f = rw (p, lt-ltb _ _ h, le-ltb s.tick 0 (omega arith), le-ltb _ _ g, not_after_lem (get_last? seen) s, q, le-ltb _ _ f)

-- Stop ticks in cells ------------------------------------------------------------------------------------------------

stop_new : (ss : List Stop) (s : Stop) (q : ℕ) → stop_time ss q ≡ never → s.processor ≡ q → stop_time (ss ++ s ∷ []) q ≡ tick s.tick
unfolding stop_time
stop_new [] s q h e = rw (eq-eqb _ _ e)
stop_new (x ∷ ss) s q h e = by (eqb x.processor q) h (λ n. stop_new ss s q n e)
  where
    by : (b : Bool) → (if b then tick x.tick else stop_time ss q) ≡ never → (stop_time ss q ≡ never → stop_time (ss ++ s ∷ []) q ≡ tick s.tick)
        → (if b then tick x.tick else stop_time (ss ++ s ∷ []) q) ≡ tick s.tick
    by true h f = absurd cc
    by false h f = f h

stop_other : (ss : List Stop) (s : Stop) (q : ℕ) → (s.processor ≡ q → ⊥) → stop_time (ss ++ s ∷ []) q ≡ stop_time ss q
unfolding stop_time
stop_other [] s q e = rw (ne_eqb _ _ e)
stop_other (x ∷ ss) s q e = rw (stop_other ss s q e)

-- Of the text `start` the bytes s are left; the cells have the ticks of the stops read, and processors from `least` on may follow.
pub record StopsUpTo (l : Limits) (start : List ℕ) (m least : ℕ) (s cells : List ℕ) : Type 0 where
  pub seen : List Stop
  pub left : ℕ
  pub enough : length s ≤ left
  pub rest : (j : Job) → j.processors ≡ m → stop_lines l j left seen s ≡ stop_lines l j (length start) [] start
  pub size : m ≤ length cells
  pub next_least : after_last (get_last? seen) ≡ least
  pub times : (q : ℕ) → q < length cells → (time_in (nth cells q) ≡ stop_time seen q) × Small l.tick (nth cells q)
  pub above : (q : ℕ) → least ≤ q → stop_time seen q ≡ never

pub stops_none : (l : Limits) (s : List ℕ) (m : ℕ) (cells : List ℕ) → m ≤ length cells
    → ((q : ℕ) → q < length cells → nth cells q ≡ never_cell) → StopsUpTo l s m 0 s cells
unfolding stop_time
stops_none l s m cells z h = record {
  seen = [];
  left = length s;
  enough = omega arith;
  rest = λ j e. refl;
  size = z;
  next_least = refl;
  times = λ q g. (rw (h q g), inl (h q g));
  above = λ q g. refl;
}

module _ {l : Limits} {start : List ℕ} {m least : ℕ} {s cells : List ℕ} (u : StopsUpTo l start m least s cells) where
  abbrev all : Job → Text.Result (List Stop)
  all j = ended (stop_lines l j (length start) [] start)

  pub stops_end : empty s ≡ true → (j : Job) → j.processors ≡ m → StopsLoaded l (all j) cells (Ok tt)
  stops_end h j e = rw (sym (u.rest j e) ∙ sym (to_end (stop_line l) (stop_rule l j) u.seen u.left s h)) (refl, u.times)

  -- The next line, into a slice of two cells or more.
  module _ (h : empty s ≡ false) (room : ℕ) (g : 2 ≤ room) where
    one_left : u.left ≡ suc (u.left - 1)
    one_left = omega (arith, u.enough, some_left s h)

    refuse : (x : Refusal) → ((j : Job) → j.processors ≡ m → refused (number_of x) ≡ ruled (stop_line l) (stop_rule l j) u.seen s)
        → (j : Job) → j.processors ≡ m → StopsLoaded l (all j) cells (Err x)
    refuse x f j e =
        let q = rw one_left at (u.rest j e) in
        rw (sym q ∙ sym (to_no (stop_line l) (stop_rule l j) u.seen (u.left - 1) s h (number_of x) (f j e)))

    pub stops_bad : (x : Refusal) → refused (number_of x) ≡ line_into l room (bytes "S,") 2 s
        → (j : Job) → j.processors ≡ m → StopsLoaded l (all j) cells (Err x)
    unfolding stop_line
    stops_bad x e =
        let f : stop_line l s ≡ refused (number_of x) = rw (sym (e ∙ line_fits l room (bytes "S,") 2 s g)) in
        refuse x (λ j _. ruled_bad (stop_line l) (stop_rule l j) u.seen s (number_of x) f)

    -- It was found: its numbers stand at the front of ys, the bytes q are left.
    module _ (ys q : List ℕ) (b : found (take 2 ys) q ≡ line_into l room (bytes "S,") 2 s) where
      whole : line l (bytes "S,") 2 s ≡ found (take 2 ys) q
      whole = sym (b ∙ line_fits l room (bytes "S,") 2 s g)

      formed : stop_line l s ≡ found (stop_of ys) q
      unfolding stop_line
      formed = rw (whole, get_or-take 2 ys 0 0 (omega arith), get_or-take 2 ys 1 0 (omega arith))

      pub stops_no : (x : Refusal) → StopRuled l m least (stop_of ys) (number_of x)
          → (j : Job) → j.processors ≡ m → StopsLoaded l (all j) cells (Err x)
      stops_no x f = refuse x (λ j e. ruled_no (stop_line l) (stop_rule l j) u.seen s (stop_of ys) q formed (number_of x) (f j u.seen e u.next_least) (positive x))

      -- Fewer bytes are left.
      pub stops_shorter : length q < length s
      stops_shorter = omega (arith, line_shorter l (bytes "S,") 2 s (take 2 ys) q whole)

      pub stops_next : Suited l → nth ys 0 < m → nth ys 1 ≤ l.tick → least ≤ nth ys 0 → StopRuled l m least (stop_of ys) 0
          → StopsUpTo l start m (nth ys 0 + 1) q (set cells (nth ys 0) (nth ys 1))
      stops_next i a t lo f =
          let k = nth ys 0 in
          let z : length (set cells k (nth ys 1)) ≡ length cells = length-set cells k (nth ys 1) in
          record {
            seen = u.seen ++ stop_of ys ∷ [];
            left = u.left - 1;
            enough = omega (arith, stops_shorter, u.enough);
            rest = λ j e.
                to_next (stop_line l) (stop_rule l j) u.seen (u.left - 1) s h (stop_of ys) q
                (ruled_yes (stop_line l) (stop_rule l j) u.seen s (stop_of ys) q formed 0 (f j u.seen e u.next_least) (omega arith))
                ∙ (rw one_left at (u.rest j e));
            size = omega (arith, z, u.size);
            next_least = rw (last_of u.seen (stop_of ys)) (omega arith);
            times = λ q g.
                ⊎_elim
                (λ (e : k ≡ q). rw (← e, get_or-set_same cells k (nth ys 1) 0 (omega (arith, a, u.size)))
                (rw (ne_eqb (nth ys 1) never_cell (λ w. omega (arith, w, t, i.tick_fits))) (sym (stop_new u.seen (stop_of ys) k (u.above k lo) refl)), inr t))
                (λ (i : k ≡ q → ⊥). rw (get_or-set_other cells k q (nth ys 1) 0 (λ w. i (sym w)), stop_other u.seen (stop_of ys) q i)
                (u.times q (omega (arith, z, g))))
                (equal_or_not k q);
            above = λ q g. stop_other u.seen (stop_of ys) q (λ w. omega arith) ∙ u.above q (omega arith);
          }

-- The whole text, for cells that are `size` in number.
module _ (l : Limits) (size : ℕ) (s cells : List ℕ) (j : Job) where
  pub stops_short : size < j.processors → StopsLoaded l (stops_from l size j s) cells (Err NoRoom)
  unfolding stops_from
  stops_short h = rw (lt-ltb _ _ h)

  module _ (g : j.processors ≤ size) where
    pub stops_long : l.text_length < length s → StopsLoaded l (stops_from l size j s) cells (Err TooLong)
    unfolding stops_from read_stops
    stops_long h = rw (le-ltb _ _ g, lt-ltb _ _ h)

    pub stops_whole : (r : Result (Unit {0}) Refusal) → length s ≤ l.text_length → StopsLoaded l (ended (stop_lines l j (length s) [] s)) cells r
        → StopsLoaded l (stops_from l size j s) cells r
    unfolding stops_from read_stops
    stops_whole r h t = rw (le-ltb _ _ g, le-ltb _ _ h) t
