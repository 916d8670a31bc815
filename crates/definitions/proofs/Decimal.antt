-- What is printed as a number or a line is read back, and how long it is.
use Rattle.std.specs.Prelude.{if◌then◌else◌}
use mathlib.Core.Path.{◌≡◌, refl, ap, ◌∙◌, sym}
use mathlib.Core.Logic.{◌⊎◌, inl, inr, ⊎_elim}
use mathlib.Core.List.{List, [], ◌∷◌, ◌++◌, append_assoc}
use mathlib.Core.Bool.{Bool, true, false}
use Prim.Native.Nat.{ℕ, zero, suc, ◌+◌, ◌-◌, ◌*◌, ◌/◌, ◌%◌, ◌^◌, ◌<◌, ◌≤◌}
use native.Mathlib.Omega.{arith}
use native.Mathlib.Nat.{pow-suc, one-le-pow, div-div-eq-div-mul, mul_assoc, pow-succ', mod-eq_of_lt, div-lt_iff_lt-mul, div-add-mod'}
use lib.Arith.{mod-mul}
use lib.Dec.{ltb, eqb}
use lib.ListN.{length, length-append}
use borrow.Author.Tests.{le-leb, ne_eqb, eq-eqb, ltb-true, ltb-false, eqb-true}
use Rattle.definitions.specs.Lists.{In}
use Rattle.definitions.specs.Limits.{Limits}
use Rattle.definitions.specs.Text.{found, next, return, Reader, is_digit, digits, exactly, mark, number, numbers, line, width_from, width, low_digits, decimal, numbers_text, line_text}
use Rattle.definitions.proofs.Reading.{refused≢found, next_found}

-- Digits ------------------------------------------------------------------------------------------------------

is_digit_lem : (x : ℕ) → x < 10 → is_digit (48 + x) ≡ true
is_digit_lem x h =
    let a : 48 ≤ 48 + x = omega arith in
    let b : 48 + x ≤ 57 = omega arith in
    simp (le-leb 48 (48 + x) a, le-leb (48 + x) 57 b)

ten_pos : (k : ℕ) → 0 < 10 ^ k
ten_pos k = one-le-pow k 10 (omega arith)

-- One more digit at the low end.
low : (n k m : ℕ) → (n * 10 ^ k + m / 10 % 10 ^ k) * 10 + m % 10 ≡ n * 10 ^ suc k + m % 10 ^ suc k
low n k m =
    let p : 10 ^ suc k ≡ 10 ^ k * 10 = pow-suc 10 k in
    let q : m % (10 ^ k * 10) ≡ (m / 10 % 10 ^ k) * 10 + m % 10 = mod-mul m (ten_pos k) (omega arith) in
    let r : n * (10 ^ k * 10) ≡ n * 10 ^ k * 10 = sym (mul_assoc n (10 ^ k) 10) in
    rw (p, q, r) (omega arith)

-- A text does not begin with a digit.
abbrev pub Ends : List ℕ → Type 0
Ends [] = Unit {0}
Ends (b ∷ s) = is_digit b ≡ false

ends : (k n : ℕ) (s : List ℕ) → Ends s → digits k n s ≡ found n s
unfolding digits
ends k n [] e = refl
ends k n (b ∷ s) e = rw e

module _ (l : Limits) where
  -- Reading goes through k printed digits.
  through : (k m : ℕ) (s : List ℕ) (room n : ℕ) → k ≤ room → digits room n (low_digits k m ++ s) ≡ digits (room - k) (n * 10 ^ k + m % 10 ^ k) s
  unfolding digits low_digits
  through zero m s room n h =
      let a : n * 1 + m % 1 ≡ n = omega arith in
      let b : room - 0 ≡ room = omega arith in
      rw (a, b)
  through (suc k) m s room n h =
      let d : 48 + m % 10 - 48 ≡ m % 10 = omega arith in
      let z : eqb (room - k) 0 ≡ false = ne_eqb (room - k) 0 (λ e. omega arith) in
      let e : room - k - 1 ≡ room - suc k = omega arith in
      ap (λ (t : List ℕ). digits room n t) (append_assoc (low_digits k (m / 10)) ((48 + m % 10) ∷ []) s)
      ∙ through k (m / 10) ((48 + m % 10) ∷ s) room n (omega arith)
      ∙ rw (is_digit_lem (m % 10) (omega arith), z, d, e, low n k m)

  -- The highest of k + 1 digits, and the k others.
  front : (k n : ℕ) → low_digits (suc k) n ≡ (48 + n / 10 ^ k % 10) ∷ low_digits k n
  unfolding low_digits
  front zero n = let e : n / 1 ≡ n = omega arith in rw e
  front (suc k) n =
      let e : n / 10 ^ suc k ≡ n / 10 / 10 ^ k = ap (λ (x : ℕ). n / x) (pow-succ' 10 k) ∙ sym (div-div-eq-div-mul n 10 (10 ^ k)) in
      rw (front k (n / 10), e)

  -- n has d digits, at most as many as there are powers.
  abbrev Has : ℕ → ℕ → Type 0
  Has n d = (k : ℕ) × (d ≡ suc k) × (suc k ≤ l.powers) × (n < 10 ^ suc k) × ((k ≡ 0) ⊎ (10 ^ k ≤ n))

  counted : (i e n : ℕ) → suc e + i ≡ l.powers → n < 10 ^ l.powers → (e ≡ 0) ⊎ (10 ^ e ≤ n) → Has n (width_from i (suc e) n)
  unfolding width_from
  counted zero e n s h g = let f : suc e ≡ l.powers = omega arith in (e, refl, omega arith, rw f h, g)
  counted (suc i) e n s h g = by (ltb n (10 ^ suc e)) refl (λ q. counted i (suc e) n (omega arith) h (inr q))
    where
      by : (b : Bool) → ltb n (10 ^ suc e) ≡ b → (10 ^ suc e ≤ n → Has n (width_from i (suc (suc e)) n)) → Has n (if b then suc e else width_from i (suc e + 1) n)
      by true t r = (e, refl, omega arith, ltb-true n (10 ^ suc e) t, g)
      by false t r =
          let f : suc e + 1 ≡ suc (suc e) = omega arith in
          rw f (r (ltb-false n (10 ^ suc e) t))

  digits_back : (k n : ℕ) (s : List ℕ) → suc k ≤ l.digits → n < 10 ^ suc k → (k ≡ 0) ⊎ (10 ^ k ≤ n) → Ends s
      → number l (low_digits (suc k) n ++ s) ≡ found n s
  unfolding number low_digits
  digits_back k n s hk hn g e =
      let p : 10 ^ suc k ≡ 10 * 10 ^ k = pow-succ' 10 k in
      let q : n / 10 ^ k < 10 = (div-lt_iff_lt-mul (ten_pos k)).1 (rw p at hn) in
      let x : n / 10 ^ k % 10 ≡ n / 10 ^ k = mod-eq_of_lt q in
      ap (λ (t : List ℕ). number l (t ++ s)) (front k n)
      ∙ rw (x, is_digit_lem (n / 10 ^ k) q) (by (eqb (48 + n / 10 ^ k) 48) refl)
    where
      none : k ≡ 0 → n < 1 * 10 ^ 0 → digits 0 (48 + n / 10 ^ k - 48) (low_digits k n ++ s) ≡ found n s
      none kz u = let nz : n ≡ 0 = omega arith in rw (kz, nz) (ends 0 0 s e)

      by : (b : Bool) → eqb (48 + n / 10 ^ k) 48 ≡ b → digits (if b then 0 else l.digits - 1) (48 + n / 10 ^ k - 48) (low_digits k n ++ s) ≡ found n s
      by true t =
          let z : 48 + n / 10 ^ k ≡ 48 = eqb-true (48 + n / 10 ^ k) 48 t in
          let y : n / 10 ^ k < 1 = omega arith in
          let u : n < 1 * 10 ^ k = (div-lt_iff_lt-mul (ten_pos k)).0 y in
          ⊎_elim (λ kz. none kz (rw kz at u)) (λ le. absurd (omega arith)) g
      by false t =
          let d : 48 + n / 10 ^ k - 48 ≡ n / 10 ^ k = omega arith in
          let v : n / 10 ^ k * 10 ^ k + n % 10 ^ k ≡ n = div-add-mod' n (10 ^ k) in
          rw d (through k n s (l.digits - 1) (n / 10 ^ k) (omega arith) ∙ ends _ _ s e ∙ rw v)

  -- A printed number is read back.
  pub number_back : (n : ℕ) (s : List ℕ) → 1 ≤ l.powers → l.powers ≤ l.digits → n < 10 ^ l.powers → Ends s → number l (decimal l n ++ s) ≡ found n s
  unfolding decimal width
  number_back n s least most h e =
      let c = counted (l.powers - 1) 0 n (omega arith) h (inl refl) in
      rw c.1 (digits_back c.0 n s (omega (arith, c.2)) c.3 c.4 e)

-- Lines -------------------------------------------------------------------------------------------------------

mark_ends : (k : ℕ) (s : List ℕ) → Ends (mark k ∷ s)
mark_ends zero s = refl
mark_ends (suc k) s = let e : eqb (suc k) 0 ≡ false = ne_eqb (suc k) 0 (λ e. omega arith) in rw e

exactly_back : (opening s : List ℕ) → exactly opening (opening ++ s) ≡ found tt s
unfolding exactly
exactly_back [] s = refl
exactly_back (o ∷ os) s = rw (eq-eqb o o refl) (exactly_back os s)

-- Both are 0, or neither is.
abbrev Together : ℕ → ℕ → Type 0
Together k n = (k ≡ 0 → n ≡ 0) × (n ≡ 0 → k ≡ 0)

-- Two marks are the same only together at the end of a line.
mark_only : (k n : ℕ) (s : List ℕ) (u : Unit {0}) (r : List ℕ) → exactly (mark k ∷ []) (mark n ∷ s) ≡ found u r → (r ≡ s) × Together k n
unfolding exactly
mark_only zero zero s u r h = (cc, (λ e. refl, λ e. refl))
mark_only zero (suc n) s u r h = absurd (refused≢found (rw (ne_eqb (suc n) 0 (λ e. omega arith)) at h))
mark_only (suc k) zero s u r h = absurd (refused≢found (rw (ne_eqb (suc k) 0 (λ e. omega arith)) at h))
mark_only (suc k) (suc n) s u r h =
    let f = rw (ne_eqb (suc k) 0 (λ e. omega arith), ne_eqb (suc n) 0 (λ e. omega arith)) at h in
    (cc, (λ e. absurd (omega arith), λ e. absurd (omega arith)))

module _ (l : Limits) (least : 1 ≤ l.powers) (most : l.powers ≤ l.digits) where
  number_marked : (v : ℕ) (vs s : List ℕ) → v < 10 ^ l.powers → number l (numbers_text l (v ∷ vs) ++ s) ≡ found v (mark (length vs) ∷ (numbers_text l vs ++ s))
  unfolding numbers_text
  number_marked v vs s h =
      rw (append_assoc (decimal l v) (mark (length vs) ∷ numbers_text l vs) s)
      (number_back l v (mark (length vs) ∷ (numbers_text l vs ++ s)) least most h (mark_ends (length vs) (numbers_text l vs ++ s)))

  numbers_back : (vs s : List ℕ) → ((v : ℕ) → In v vs → v < 10 ^ l.powers) → numbers l (length vs) (numbers_text l vs ++ s) ≡ found vs s
  unfolding numbers numbers_text
  numbers_back [] s h = refl
  numbers_back (v ∷ vs) s h =
      rw (number_marked v vs s (h v (inl refl)), exactly_back (mark (length vs) ∷ []) (numbers_text l vs ++ s), numbers_back vs s (λ w i. h w (inr i)))

  -- A printed line is read back.
  pub line_back : (opening vs s : List ℕ) → ((v : ℕ) → In v vs → v < 10 ^ l.powers) → line l opening (length vs) (line_text l opening vs ++ s) ≡ found vs s
  unfolding line line_text
  line_back opening vs s h =
      rw (append_assoc opening (numbers_text l vs) s, exactly_back opening (numbers_text l vs ++ s)) (numbers_back vs s h)

  -- It reads as no other line: where a line of some numbers is found, it has these.
  numbers_step : (k v : ℕ) (vs s ws r : List ℕ) → v < 10 ^ l.powers → numbers l (suc k) (numbers_text l (v ∷ vs) ++ s) ≡ found ws r
      → (next (numbers l k (numbers_text l vs ++ s)) (λ us. return (v ∷ us)) ≡ found ws r) × Together k (length vs)
  unfolding numbers
  numbers_step k v vs s ws r h g =
      let t = numbers_text l vs ++ s in
      let others : Unit {0} → Reader (List ℕ) = λ _ t. next (numbers l k t) (λ us. return (v ∷ us)) in
      let (u, t', e, f) = next_found (exactly (mark k ∷ []) (mark (length vs) ∷ t)) others ws r (rw (number_marked v vs s h) at g) in
      let (q, both) = mark_only k (length vs) t u t' e in
      (rw q at f, both)

  numbers_only : (k v : ℕ) (vs s ws r : List ℕ) → ((u : ℕ) → In u (v ∷ vs) → u < 10 ^ l.powers)
      → numbers l (suc k) (numbers_text l (v ∷ vs) ++ s) ≡ found ws r → (ws ≡ v ∷ vs) × (r ≡ s)
  unfolding numbers numbers_text
  numbers_only zero v [] s ws r h g = let f = (numbers_step zero v [] s ws r (h v (inl refl)) g).0 in (cc, cc)
  numbers_only zero v (w ∷ vs) s ws r h g = absurd (omega (arith, (numbers_step zero v (w ∷ vs) s ws r (h v (inl refl)) g).1.0 refl))
  numbers_only (suc k) v [] s ws r h g = absurd (omega (arith, (numbers_step (suc k) v [] s ws r (h v (inl refl)) g).1.1 refl))
  numbers_only (suc k) v (w ∷ vs) s ws r h g =
      let (f, _) = numbers_step (suc k) v (w ∷ vs) s ws r (h v (inl refl)) g in
      let (us, t, e, f') = next_found (numbers l (suc k) (numbers_text l (w ∷ vs) ++ s)) (λ us. return (v ∷ us)) ws r f in
      let (p, q) = numbers_only k w vs s us t (λ u i. h u (inr i)) e in
      (cc, cc)

  pub line_only : (opening : List ℕ) (k v : ℕ) (vs s ws r : List ℕ) → 1 ≤ k → ((u : ℕ) → In u (v ∷ vs) → u < 10 ^ l.powers)
      → line l opening k (line_text l opening (v ∷ vs) ++ s) ≡ found ws r → (ws ≡ v ∷ vs) × (r ≡ s)
  unfolding line line_text
  line_only opening zero v vs s ws r least h g = absurd (omega arith)
  line_only opening (suc k) v vs s ws r least h g =
      numbers_only k v vs s ws r h (rw (append_assoc opening (numbers_text l (v ∷ vs)) s, exactly_back opening (numbers_text l (v ∷ vs) ++ s)) at g)

-- Lengths -----------------------------------------------------------------------------------------------------

module _ (l : Limits) where
  width_from_least : (k d n : ℕ) → d ≤ width_from k d n
  unfolding width_from
  width_from_least zero d n = omega arith
  width_from_least (suc k) d n = by (ltb n (10 ^ d)) (width_from_least k (d + 1) n)
    where
      by : (b : Bool) → d + 1 ≤ width_from k (d + 1) n → d ≤ (if b then d else width_from k (d + 1) n)
      by true h = omega arith
      by false h = omega arith

  width_from_most : (k d n : ℕ) → width_from k d n ≤ d + k
  unfolding width_from
  width_from_most zero d n = omega arith
  width_from_most (suc k) d n = by (ltb n (10 ^ d)) (width_from_most k (d + 1) n)
    where
      by : (b : Bool) → width_from k (d + 1) n ≤ d + 1 + k → (if b then d else width_from k (d + 1) n) ≤ d + suc k
      by true h = omega arith
      by false h = omega arith

  width_from_monotone : (k d n m : ℕ) → n ≤ m → width_from k d n ≤ width_from k d m
  unfolding width_from
  width_from_monotone zero d n m h = omega arith
  width_from_monotone (suc k) d n m h = by (ltb n (10 ^ d)) (ltb m (10 ^ d)) refl refl (width_from_monotone k (d + 1) n m h)
    where
      by : (b c : Bool) → ltb n (10 ^ d) ≡ b → ltb m (10 ^ d) ≡ c → width_from k (d + 1) n ≤ width_from k (d + 1) m
          → (if b then d else width_from k (d + 1) n) ≤ (if c then d else width_from k (d + 1) m)
      by true true p q r = omega arith
      by true false p q r = omega (arith, width_from_least k (d + 1) m)
      by false true p q r = absurd (omega (arith, ltb-false n (10 ^ d) p, ltb-true m (10 ^ d) q))
      by false false p q r = r

  pub width_powers : (n : ℕ) → 1 ≤ l.powers → width l n ≤ l.powers
  unfolding width
  width_powers n h = omega (arith, width_from_most (l.powers - 1) 1 n)

  pub width_monotone : (n m : ℕ) → n ≤ m → width l n ≤ width l m
  unfolding width
  width_monotone n m = width_from_monotone (l.powers - 1) 1 n m

  length_digits : (d n : ℕ) → length (low_digits d n) ≡ d
  unfolding low_digits
  length_digits zero n = refl
  length_digits (suc d) n = omega (arith, length-append (low_digits d (n / 10)) ((48 + n % 10) ∷ []), length_digits d (n / 10))

  pub length_decimal : (n : ℕ) → length (decimal l n) ≡ width l n
  unfolding decimal
  length_decimal n = length_digits (width l n) n

  -- Of no numbers; of a number and those after it.
  pub length_none : length (numbers_text l []) ≡ 0
  unfolding numbers_text
  length_none = refl

  pub length_numbers : (v : ℕ) (vs : List ℕ) → length (numbers_text l (v ∷ vs)) ≡ width l v + 1 + length (numbers_text l vs)
  unfolding numbers_text
  length_numbers v vs = omega (arith, length-append (decimal l v) (mark (length vs) ∷ numbers_text l vs), length_decimal v)

  pub length_line : (opening vs : List ℕ) → length (line_text l opening vs) ≡ length opening + length (numbers_text l vs)
  unfolding line_text
  length_line opening vs = length-append opening (numbers_text l vs)
