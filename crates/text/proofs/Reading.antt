-- Numbers and fixed bytes at a place of a text.
use Rattle.std.specs.Prelude.{◌==◌, [], ◌∷◌, Bool, ◌&&◌, take, eqb, if◌then◌else◌}
use Rattle.std.proofs.lemmas.Bool.Decides.{nat_tests}
use Rattle.std.proofs.lemmas.List.{take_rest, drop_min, drop-drop}
use Rattle.std.specs.List.{list_all, zip}
use Rattle.lists.proofs.Prelude.{◌≡◌, refl, sym, ◌∙◌, List, true, false, ℕ, ◌+◌, ◌-◌, ◌*◌, ◌%◌, ◌^◌, ◌<◌, ◌≤◌, min, ⊎_elim, arith, add-one, lt-leb, le-leb, eq-eqb, ne_eqb, length, get_or, drop, drop_of_length-le, drop-cons, Limits, found, refused, is_digit, digits, number, exactly}
use native.Mathlib.Nat.{pow-suc, pow-le-pow_right, eq-zero-or-pos}
use Rattle.text.specs.Suited.{Suited}

pub digit_yes : (b : ℕ) → 48 ≤ b → b ≤ 57 → is_digit b ≡ true
digit_yes b l h = simp (le-leb 48 b l, le-leb b 57 h)

pub digit_low : (b : ℕ) → b < 48 → is_digit b ≡ false
digit_low b l = simp (lt-leb 48 b l)

pub digit_high : (b : ℕ) → 57 < b → is_digit b ≡ false
digit_high b h = let l : 48 ≤ b = omega arith in simp (le-leb 48 b l, lt-leb b 57 h)

-- The digit r of the byte b, by one subtraction that wraps.
pub digit_wrapped : (b r : ℕ) → r < 2 ^ 64 → (r + 48) % 2 ^ 64 ≡ b → (r ≤ 9 → (is_digit b ≡ true) × (b ≡ r + 48)) × (9 < r → is_digit b ≡ false)
digit_wrapped b r w e = (
  λ h.
      let f : b ≡ r + 48 = omega arith in
      (digit_yes b (omega arith) (omega arith), f),
  λ h. ⊎_elim (λ z. digit_high b (omega arith)) (λ z. digit_low b (omega arith)) (eq-zero-or-pos (48 - b)),
)

-- The value of i digits: one digit more.
pub value_ten : (i n d : ℕ) → n < 10 ^ i → d ≤ 9 → n * 10 + d < 10 ^ (i + 1)
value_ten i n d a b = rw (add-one, pow-suc) (omega arith)

pub value_more : (most k n d : ℕ) → k < most → 0 < k → n < 10 ^ (most - k) → d ≤ 9 → n * 10 + d < 10 ^ (most - (k - 1))
value_more most k n d h p a b = let e : most - (k - 1) ≡ most - k + 1 = omega arith in rw e (value_ten (most - k) n d a b)

-- With it there are no more digits than are read.
pub value_fits : (l : Limits) → Suited l → (i n : ℕ) → i < l.digits → n < 10 ^ i → n * 10 + 9 < 2 ^ 64
value_fits l u i n h a =
    omega (arith, value_ten i n 9 a (omega arith), pow-le-pow_right {n = 10} (omega arith) {i = i + 1} {j = l.digits} (omega arith), u.number_fits)

module _ (s : List ℕ) (i k n : ℕ) where
  pub digits_end : length s ≤ i → found n (drop i s) ≡ digits k n (drop i s)
  unfolding digits
  digits_end h = rw (drop_of_length-le s h)

  pub digits_stop : i < length s → is_digit (get_or s i 0) ≡ false → found n (drop i s) ≡ digits k n (drop i s)
  unfolding digits
  digits_stop h t = rw (drop-cons s i 0 h, t)

  pub digits_full : i < length s → is_digit (get_or s i 0) ≡ true → k ≡ 0 → refused 2 ≡ digits k n (drop i s)
  unfolding digits
  digits_full h t e = rw (drop-cons s i 0 h, t, eq-eqb k 0 e)

  pub digits_next : i < length s → is_digit (get_or s i 0) ≡ true → (k ≡ 0 → ⊥)
      → digits (k - 1) (n * 10 + (get_or s i 0 - 48)) (drop (i + 1) s) ≡ digits k n (drop i s)
  unfolding digits
  digits_next h t e = rw (drop-cons s i 0 h, t, ne_eqb k 0 e, add-one)

-- The i-th byte after a first digit at `at`, where the text goes on for two bytes after as many digits as are read.
module _ (most : ℕ) (s : List ℕ) (at i n : ℕ) (h : at + (most + 2) ≤ length s) (l : i ≤ most) where
  pub inner_stop : is_digit (get_or s (at + i) 0) ≡ false → found n (drop (at + i) s) ≡ digits (most - i) n (drop (at + i) s)
  inner_stop t = digits_stop s (at + i) (most - i) n (omega arith) t

  pub inner_next : (d : ℕ) → i < most → (is_digit (get_or s (at + i) 0) ≡ true) × (get_or s (at + i) 0 ≡ d + 48)
      → digits (most - (i + 1)) (n * 10 + d) (drop (at + (i + 1)) s) ≡ digits (most - i) n (drop (at + i) s)
  inner_next d g t =
      let f : get_or s (at + i) 0 - 48 ≡ d = omega (arith, t.1) in
      let k : most - (i + 1) ≡ most - i - 1 = omega arith in
      let p : at + (i + 1) ≡ at + i + 1 = omega arith in
      rw (k, p, ← f) (digits_next s (at + i) (most - i) n (omega arith) t.0 (λ z. omega arith))

  module _ (g : most ≤ i) where
    last : i ≡ most
    last = omega arith

    pub inner_full : is_digit (get_or s (at + most) 0) ≡ true → refused 2 ≡ digits (most - i) n (drop (at + i) s)
    inner_full t = rw last (digits_full s (at + most) (most - most) n (omega arith) t (omega arith))

    pub inner_end : is_digit (get_or s (at + most) 0) ≡ false → found n (drop (at + most) s) ≡ digits (most - i) n (drop (at + i) s)
    inner_end t = rw last (digits_stop s (at + most) (most - most) n (omega arith) t)

module _ (l : Limits) (s : List ℕ) (i : ℕ) where
  pub number_end : length s ≤ i → refused 2 ≡ number l (drop i s)
  unfolding number
  number_end h = rw (drop_of_length-le s h)

  -- By the byte b that stands there.
  module _ (b : ℕ) (h : i < length s) (e : b ≡ get_or s i 0) where
    front : drop i s ≡ b ∷ drop (i + 1) s
    front = rw (e, add-one) (drop-cons s i 0 h)

    pub number_no : is_digit b ≡ false → refused 2 ≡ number l (drop i s)
    unfolding number
    number_no t = rw (front, t)

    pub number_low : b < 48 → refused 2 ≡ number l (drop i s)
    number_low t = number_no (digit_low b t)

    pub number_high : 57 < b → refused 2 ≡ number l (drop i s)
    number_high t = number_no (digit_high b t)

    pub number_zero : b ≡ 48 → digits 0 0 (drop (i + 1) s) ≡ number l (drop i s)
    unfolding number
    number_zero f = rw (front, f)

    pub number_more : is_digit b ≡ true → (b ≡ 48 → ⊥) → digits (l.digits - 1) (b - 48) (drop (i + 1) s) ≡ number l (drop i s)
    unfolding number
    number_more t f = rw (front, t, ne_eqb b 48 f)

-- The number at `at`, where the text goes on, by the digit d that its first byte is.
module _ (l : Limits) (s : List ℕ) (at : ℕ) (h : at + (l.digits + 2) ≤ length s) where
  pub inner_no : is_digit (get_or s at 0) ≡ false → refused 2 ≡ number l (drop at s)
  inner_no t = number_no l s at _ (omega arith) refl t

  module _ (d : ℕ) (t : (is_digit (get_or s at 0) ≡ true) × (get_or s at 0 ≡ d + 48)) where
    pub inner_more : 0 < d → digits (l.digits - 1) d (drop (at + 1) s) ≡ number l (drop at s)
    inner_more g =
        let f : get_or s at 0 - 48 ≡ d = omega (arith, t.1) in
        rw (← f) (number_more l s at _ (omega arith) refl t.0 (λ z. omega (arith, t.1)))

    zero : d ≤ 0 → digits 0 0 (drop (at + 1) s) ≡ number l (drop at s)
    zero g = number_zero l s at _ (omega arith) refl (omega (arith, t.1))

    pub inner_zeros : d ≤ 0 → is_digit (get_or s (at + 1) 0) ≡ true → refused 2 ≡ number l (drop at s)
    inner_zeros g u = digits_full s (at + 1) 0 0 (omega arith) u refl ∙ zero g

    pub inner_zero : d ≤ 0 → is_digit (get_or s (at + 1) 0) ≡ false → found 0 (drop (at + 1) s) ≡ number l (drop at s)
    inner_zero g u = digits_stop s (at + 1) 0 0 (omega arith) u ∙ zero g

eqb_turned : (a b : ℕ) → eqb a b ≡ eqb b a
eqb_turned a b = grind (arith, nat_tests)

-- Where the text s is no shorter than the bytes o, they stand at its front if they agree with it.
abbrev pub agree : List ℕ → List ℕ → Bool
agree o s = list_all (λ p. eqb p.0 p.1) (zip o s)

short : (o s : List ℕ) → length s < length o → exactly o s ≡ refused 2
unfolding exactly
short [] s h = absurd (omega arith)
short (o ∷ os) [] h = refl
short (o ∷ os) (b ∷ s) h = by (eqb b o) (short os s (omega arith))
  where
    by : (t : Bool) → exactly os s ≡ refused 2 → (if t then exactly os s else refused 2) ≡ refused 2
    by true others = others
    by false others = refl

long : (o s : List ℕ) → length o ≤ length s → exactly o s ≡ (if agree o s then found tt (drop (length o) s) else refused 2)
unfolding exactly
long [] s h = refl
long (o ∷ os) [] h = absurd (omega arith)
long (o ∷ os) (b ∷ s) h = rw (eqb_turned b o) (by (eqb o b) (long os s (omega arith)))
  where
    by : (t : Bool) → exactly os s ≡ (if agree os s then found tt (drop (length os) s) else refused 2)
        → (if t then exactly os s else refused 2) ≡ (if t && agree os s then found tt (drop (length os) s) else refused 2)
    by true others = others
    by false others = refl

-- Whether they stand at a place of the text s: m is the place, or the text's end if that is before it.
module _ (o s : List ℕ) (at m : ℕ) (e : m ≡ min at (length s)) where
  rest : take (length s - m) (drop m s) ≡ drop at s
  rest = take_rest s m ∙ rw e (drop_min at s)

  stands : {r : Bool} → length o ≤ length (take (length s - m) (drop m s)) → r ≡ agree o (take (length s - m) (drop m s))
      → (if r then found tt (drop (at + length o) s) else refused 2) ≡ exactly o (drop at s)
  stands h t = let g : length o ≤ length (drop at s) = rw rest at h in rw (t, rest, long o (drop at s) g, drop-drop (length o) at s) refl

  pub fixed_stands : length o ≤ length (take (length s - m) (drop m s)) → true ≡ list_all (λ (p : ℕ × ℕ). p.0 == p.1) (zip o (take (length s - m) (drop m s)))
      → found tt (drop (at + length o) s) ≡ exactly o (drop at s)
  fixed_stands h t = stands h t

  pub fixed_fails : length o ≤ length (take (length s - m) (drop m s)) → false ≡ list_all (λ (p : ℕ × ℕ). p.0 == p.1) (zip o (take (length s - m) (drop m s)))
      → refused 2 ≡ exactly o (drop at s)
  fixed_fails h t = stands h t

  pub fixed_ends : length (take (length s - m) (drop m s)) < length o → refused 2 ≡ exactly o (drop at s)
  fixed_ends h = let g : length (drop at s) < length o = rw rest at h in sym (short o (drop at s) g)
