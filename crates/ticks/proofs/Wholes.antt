-- The floats of the whole numbers up to 2 ^ 53: sums, products, comparisons and casts are those of the numbers. The infinity is above them all.
use Rattle.std.proofs.Common.{◌≡◌, ℕ, ◌+◌, ◌*◌, ◌/◌, ◌^◌, ◌<◌, ◌≤◌, true, false, T, ltb, ℤ, pos, sym, refl, ap, ◌∙◌, true≢false}
use Rattle.std.proofs.Common.{mul_assoc, mul_comm, add-mul, lt_of_mul-lt-mul_right, mul-lt-mul_of_pos_right, mul-pos, mul-one, mul-div_cancel, lit<, le→leb, lt-ltb, ltb-true}
use Rattle.std.specs.Cmp.{both_ways}
use native.Mathlib.Nat.{mul-mul-mul_comm}
use lib.Ieee.{Float, nan, inf, fin, binary64, up, down, round, sum, add, mul, lt, eq, of_int, to_unsigned, to_signed, in_unsigned, in_signed, in_float}
use lib.Ieee.Fits.{down_pos}
use lib.Ieee.Exact.{HasValue}
use lib.Ieee.Scale.{round_same}
use lib.Ieee.Back.{round_whole, unsigned_back, positive_back}
use Rattle.definitions.specs.Times.{tick, never}
use Rattle.ticks.specs.Floats.{whole, time_of}

abbrev pub Fine : ℕ → Type 0
Fine n = n ≤ 2 ^ 53

-- The parts of the float of a whole number.
record Parts (n : ℕ) (x : Float) : Type 0 where
  m : ℕ
  e : ℤ
  is : x ≡ fin false m e
  val : m * up e ≡ n * down e

parts_of : (x : Float) (n : ℕ) → HasValue x false n 1 → Parts n x
parts_of nan n v = absurd v
parts_of (inf s) n v = absurd v
parts_of (fin true m e) n v = absurd (true≢false v.0)
parts_of (fin false m e) n v = record { m = m; e = e; is = refl; val = sym (mul-one (m * up e)) ∙ v.1 }

parts : (n : ℕ) → Fine n → Parts n (whole n)
unfolding of_int
parts n h = parts_of (round binary64 false n 1) n (round_whole binary64 false n h)

-- What the operations compute at such parts.
round_at : (x y n : ℕ) → 0 < y → x ≡ n * y → round binary64 false x y ≡ whole n
unfolding of_int
round_at x y n h k = round_same binary64 false x y n 1 h (lit< tt) (mul-one x ∙ k)

sum_at : (a b c : ℕ) → sum binary64 false a false b c ≡ round binary64 false (a + b) c
unfolding sum
sum_at a b c = refl

module _ (m : ℕ) (e : ℤ) (n : ℕ) (d : ℤ) where
  add_at : add binary64 (fin false m e) (fin false n d) ≡ sum binary64 false (m * up e * down d) false (n * up d * down e) (down e * down d)
  unfolding add
  add_at = refl

  mul_at : mul binary64 (fin false m e) (fin false n d) ≡ round binary64 false (m * up e * (n * up d)) (down e * down d)
  unfolding mul
  mul_at = refl

  lt_at : lt (fin false m e) (fin false n d) ≡ ltb (m * up e * down d) (n * up d * down e)
  unfolding lt
  lt_at = refl

ltb_times : (a b c : ℕ) → 0 < c → ltb (a * c) (b * c) ≡ ltb a b
ltb_times a b c h =
    both_ways (ltb (a * c) (b * c)) (ltb a b)
    (λ t. lt-ltb a b (lt_of_mul-lt-mul_right c (ltb-true (a * c) (b * c) t)))
    (λ t. lt-ltb (a * c) (b * c) (mul-lt-mul_of_pos_right (ltb-true a b t) h))

-- Two whole numbers.
module _ (a b : ℕ) (h : Fine a) (k : Fine b) where
  p : Parts a (whole a)
  p = parts a h

  q : Parts b (whole b)
  q = parts b k

  abbrev c : ℕ
  c = down p.e * down q.e

  some : 0 < c
  some = mul-pos (down_pos p.e) (down_pos q.e)

  left : p.m * up p.e * down q.e ≡ a * c
  left = rw p.val (mul_assoc a (down p.e) (down q.e))

  right : q.m * up q.e * down p.e ≡ b * c
  right = rw q.val (simp (mul_assoc, mul_comm))

  pub add_whole : add binary64 (whole a) (whole b) ≡ whole (a + b)
  add_whole =
      rw (p.is, q.is)
      (add_at p.m p.e q.m q.e
      ∙ sum_at (p.m * up p.e * down q.e) (q.m * up q.e * down p.e) c
      ∙ round_at (p.m * up p.e * down q.e + q.m * up q.e * down p.e) c (a + b) some (rw (left, right) (sym (add-mul a b c))))

  pub mul_whole : mul binary64 (whole a) (whole b) ≡ whole (a * b)
  mul_whole =
      rw (p.is, q.is)
      (mul_at p.m p.e q.m q.e
      ∙ round_at (p.m * up p.e * (q.m * up q.e)) c (a * b) some (rw (p.val, q.val) (mul-mul-mul_comm a (down p.e) b (down q.e))))

  pub lt_whole : lt (whole a) (whole b) ≡ ltb a b
  lt_whole = rw (p.is, q.is) (lt_at p.m p.e q.m q.e ∙ rw (left, right) (ltb_times a b c some))

-- One whole number, and the infinity.
inf_add : (m : ℕ) (e : ℤ) → (add binary64 (inf false) (fin false m e) ≡ inf false) × (add binary64 (fin false m e) (inf false) ≡ inf false)
unfolding add
inf_add m e = (refl, refl)

inf_lt : (m : ℕ) (e : ℤ) → (lt (inf false) (fin false m e) ≡ false) × (lt (fin false m e) (inf false) ≡ true)
unfolding lt
inf_lt m e = (refl, refl)

inf_eq : (m : ℕ) (e : ℤ) → (eq (inf false) (fin false m e) ≡ false) × (eq (fin false m e) (inf false) ≡ false)
unfolding eq
inf_eq m e = (refl, refl)

time_at_lem : (m : ℕ) (e : ℤ) → time_of (fin false m e) ≡ tick (m * up e / down e)
unfolding time_of
time_at_lem m e = refl

pub never_lt_never : lt (inf false) (inf false) ≡ false
unfolding lt
never_lt_never = refl

pub never_eq_never : eq (inf false) (inf false) ≡ true
unfolding eq
never_eq_never = refl

pub time_never : time_of (inf false) ≡ never
unfolding time_of
time_never = refl

module _ (n : ℕ) (h : Fine n) where
  s : Parts n (whole n)
  s = parts n h

  pub never_add : add binary64 (inf false) (whole n) ≡ inf false
  never_add = rw s.is (inf_add s.m s.e).0

  pub never_lt : lt (inf false) (whole n) ≡ false
  never_lt = rw s.is (inf_lt s.m s.e).0

  pub lt_never : lt (whole n) (inf false) ≡ true
  lt_never = rw s.is (inf_lt s.m s.e).1

  pub eq_never : eq (whole n) (inf false) ≡ false
  eq_never = rw s.is (inf_eq s.m s.e).1

  pub time_whole : time_of (whole n) ≡ tick n
  time_whole = rw s.is (time_at_lem s.m s.e ∙ ap tick (rw s.val (mul-div_cancel n (down_pos s.e))))

  -- The casts: u64 (and less wide) to f64 and back, i64 and back.
  pub fine_cast : T (in_float binary64 (pos n))
  unfolding in_float
  fine_cast = le→leb n (2 ^ 53) h

  pub to_unsigned_lem : (w : ℕ) → n < 2 ^ w → T (in_unsigned binary64 w (whole n)) × (to_unsigned w (whole n) ≡ n)
  to_unsigned_lem w l = unsigned_back binary64 w n fine_cast l

  pub to_signed_lem : (w : ℕ) → n < 2 ^ w → T (in_signed binary64 w (whole n)) × (to_signed w (whole n) ≡ pos n)
  to_signed_lem w l = positive_back binary64 w n fine_cast l
