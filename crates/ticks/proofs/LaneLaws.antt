-- What is done on all processors at once, processor by processor; the clocks after a line.
use Rattle.lists.proofs.Prelude.{◌≡◌, refl, sym, ap, ◌∙◌, ⊎_elim, List, [], ◌∷◌, false, ℕ, zero, suc, ◌+◌, ◌*◌, ◌%◌, ◌^◌, ◌<◌, ◌≤◌, arith}
use Rattle.lists.proofs.Prelude.{add-one, add-zero, lt-ltb, le-ltb, length, set, take, length-set, get_or-set_same, get_or-set_other}
use Rattle.lists.proofs.Prelude.{ext_get_or, nth, sum}
use lib.Ieee.{Float, nan, inf}
use lib.Seq.{set-get_or}
use Rattle.lists.proofs.Counting.{last_or_before}
use Rattle.std.specs.List.{fold}
use Rattle.std.specs.Array.{IsFromFnResultFrom}
use Rattle.std.specs.Fn.{Mut, Called}
use Rattle.std.proofs.Math.Nat.{eq-or-lt_of_le}
use Rattle.std.proofs.lemmas.List.Sums.{fold_more}
use native.Mathlib.Nat.{zero-add}
use Rattle.ticks.specs.Floats.{lane}
use Rattle.ticks.specs.Lanes.{lanes, lesser, least_lane, advanced}

module _ (f : ℕ → Float → Float) where
  pub length_lanes : (n : ℕ) (xs : List Float) → length (lanes f n xs) ≡ length xs
  unfolding lanes
  length_lanes zero xs = refl
  length_lanes (suc n) xs = length-set (lanes f n xs) n (f n (lane xs n)) ∙ length_lanes n xs

  -- A place from n on is as it was.
  lane_left : (n : ℕ) (xs : List Float) (p : ℕ) → n ≤ p → lane (lanes f n xs) p ≡ lane xs p
  unfolding lanes
  lane_left zero xs p h = refl
  lane_left (suc n) xs p h = get_or-set_other (lanes f n xs) n p (f n (lane xs n)) nan (λ e. omega arith) ∙ lane_left n xs p (omega arith)

  -- A place below n is changed.
  lane_done : (n : ℕ) (xs : List Float) (p : ℕ) → p < n → p < length xs → lane (lanes f n xs) p ≡ f p (lane xs p)
  unfolding lanes
  lane_done zero xs p h l = absurd (omega arith)
  lane_done (suc n) xs p h l =
      ⊎_elim
      (λ (e : p ≡ n). rw e (get_or-set_same (lanes f n xs) n (f n (lane xs n)) nan (omega (arith, length_lanes n xs))))
      (λ b. get_or-set_other (lanes f n xs) n p (f n (lane xs n)) nan (λ e. omega arith) ∙ lane_done n xs p b l)
      (last_or_before n p h)

  -- No place is changed yet; one place more.
  pub lanes_none : (xs : List Float) → xs ≡ lanes f 0 xs
  unfolding lanes
  lanes_none xs = refl

  pub lanes_next : (xs : List Float) {ys : List Float} (n : ℕ) (x : Float) → ys ≡ lanes f n xs → x ≡ f n (lane ys n) → set ys n x ≡ lanes f (n + 1) xs
  unfolding lanes
  lanes_next xs {ys} n x e g =
      let w : lane ys n ≡ lane xs n = ap (λ (l : List Float). lane l n) e ∙ lane_left n xs n (omega arith) in
      let v : x ≡ f n (lane xs n) = g ∙ ap (f n) w in
      rw (add-one n, e, v)

  -- What a place is then.
  pub lanes_each : (xs ys : List Float) {k : ℕ} → ys ≡ lanes f k xs → (p : ℕ) → p < k → p < length xs → lane ys p ≡ f p (lane xs p)
  lanes_each xs ys {k} e p g h = ap (λ (l : List Float). lane l p) e ∙ lane_done k xs p g h

  -- A list is that of all places changed, if each place of it is.
  pub lanes_made : (xs ys : List Float) (k : ℕ) → length ys ≡ k → length xs ≡ k → ((p : ℕ) → p < k → lane ys p ≡ f p (lane xs p))
      → ys ≡ lanes f k xs
  lanes_made xs ys k l m h =
      ext_get_or nan ys (lanes f k xs) (omega (arith, length_lanes k xs)) (λ p b. h p (omega arith) ∙ sym (lane_done k xs p (omega arith) (omega arith)))

  -- The k places from n on keep what they hold.
  pub lanes_idle : (xs : List Float) (n k : ℕ) → ((p : ℕ) → n ≤ p → p < n + k → (z : Float) → f p z ≡ z) → lanes f (n + k) xs ≡ lanes f n xs
  unfolding lanes
  lanes_idle xs n zero h = rw (add-zero n)
  lanes_idle xs n (suc k) h =
      let e : n + suc k ≡ suc (n + k) = omega arith in
      let v : f (n + k) (lane xs (n + k)) ≡ lane (lanes f (n + k) xs) (n + k) =
      h (n + k) (omega arith) (omega arith) (lane xs (n + k)) ∙ sym (lane_left (n + k) xs (n + k) (omega arith)) in
      rw (e, v) (set-get_or (lanes f (n + k) xs) (n + k) nan ∙ lanes_idle xs n k (λ p l g. h p l (omega arith)))

-- What a closure gave at each place that it was called for, if it gives h there.
pub given_at : {F : Type 0} (g : Mut F (ℕ × Unit {0}) Float) (f : F) (h : ℕ → Float)
    → ((i : ℕ) (y : Float) (q : F) → Called g f (i, tt) y q → (q ≡ f) × (y ≡ h i))
    → (ys : List Float) (n i : ℕ) → IsFromFnResultFrom g f ys i n → (p : ℕ) → i ≤ p → p < i + n → lane ys p ≡ h p
given_at g f h gives ys zero i made p l b = absurd (omega arith)
given_at g f h gives ys (suc n) i (q, y, here, call, rest) p l b =
    let (same, gave) = gives i y q call in
    ⊎_elim
    (λ (e : i ≡ p). rw (← e) (here.1 nan ∙ gave))
    (λ (k : i < p). given_at g f h gives ys n (i + 1) (rw same at rest) p (omega arith) (omega arith))
    (eq-or-lt_of_le l)

-- The least of the first lanes, one after the other.
pub least_folded : (n : ℕ) (xs : List Float) → n ≤ length xs → fold (λ x z. lesser z x) (inf false) (take n xs) ≡ least_lane n xs
unfolding least_lane
least_folded zero xs h = refl
least_folded (suc n) xs h =
    rw (← add-one n, fold_more (λ x z. lesser z x) (inf false) xs n nan (omega arith), least_folded n xs (omega arith))

-- The sum of the cells, one after the other, in 64 bits.
total_from : (a : ℕ) (cells : List ℕ) → fold (λ x y. (x + y) % 2 ^ 64) (a % 2 ^ 64) cells ≡ (a + sum cells) % 2 ^ 64
unfolding sum
total_from a [] = omega arith
total_from a (x ∷ cells) =
    let e : (a % 2 ^ 64 + x) % 2 ^ 64 ≡ (a + x) % 2 ^ 64 = omega arith in
    let f : a + x + sum cells ≡ a + (x + sum cells) = omega arith in
    rw e (total_from (a + x) cells ∙ ap (λ (n : ℕ). n % 2 ^ 64) f)

pub total_folded : (cells : List ℕ) → fold (λ x y. (x + y) % 2 ^ 64) 0 cells ≡ sum cells % 2 ^ 64
total_folded cells = total_from 0 cells ∙ rw zero-add

-- The clocks after one replica more, on a processor that has one, or on none.
module _ (o : ℕ) (cells clocks : List ℕ) {now : List ℕ} (n : ℕ) {processor : ℕ} (e : processor ≡ nth cells (3 * n + 0)) where
  pub advanced_yes : {time : ℕ} → time ≡ nth cells (3 * n + o) → processor < 16 → now ≡ advanced o n cells clocks
      → set now processor (time % 2 ^ 32) ≡ advanced o (n + 1) cells clocks
  unfolding advanced
  advanced_yes f h g = rw (add-one n, f, g, e) (rw (add-zero (3 * n), lt-ltb (nth cells (3 * n)) 16 (rw (e, add-zero (3 * n)) at h)))

  pub advanced_no : 16 ≤ processor → now ≡ advanced o n cells clocks → now ≡ advanced o (n + 1) cells clocks
  unfolding advanced
  advanced_no h g = rw (add-one n, le-ltb (nth cells (3 * n)) 16 (rw (e, add-zero (3 * n)) at h), g)
