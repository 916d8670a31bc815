-- Times in lanes: what the float operations do with them.
use Rattle.std.specs.Prelude.{if◌then◌else◌}
use Rattle.std.proofs.Common.{◌≡◌, ℕ, zero, suc, ◌+◌, ◌*◌, ◌<◌, ◌≤◌, Bool, true, false, T, ltb, List, length}
use Rattle.std.proofs.Common.{pos, sym, refl, ap, ◌∙◌, subst, ⊎_elim, lt_of_not-le, arith, ltb-false, ltb-true}
use lib.ListN.{get_or-eq_default}
use lib.Ieee.{Float, nan, inf, binary64, add, lt, eq, in_signed, to_signed, of_bits, of_int}
use Rattle.definitions.specs.Times.{Time, tick, never, later, sooner, after}
use Rattle.definitions.specs.Claims.{Within}
use Rattle.definitions.specs.Shelf.{NoLater}
use Rattle.lists.proofs.Counting.{last_or_before}
use Rattle.definitions.proofs.Bounds.{weaker}
use Rattle.definitions.proofs.Later.{no_later_self, no_later_then}
use Rattle.ticks.specs.Floats.{whole, float_of, time_of, Held, lane, lane_time}
use Rattle.ticks.specs.Lanes.{lesser, greater, sent, least_lane}
use Rattle.ticks.proofs.Wholes.{Fine, add_whole, mul_whole, lt_whole, never_add, never_lt, lt_never, never_lt_never}
use Rattle.ticks.proofs.Wholes.{time_whole, time_never, to_signed_lem, eq_never, never_eq_never}

-- A float that is held, with its time.
abbrev pub Holds : ℕ → Float → Time → Type 0
Holds b x t = Held b x × (time_of x ≡ t)

pub whole_holds : (n b : ℕ) → Fine b → n ≤ b → Holds b (whole n) (tick n)
whole_holds n b h l = let t = time_whole n (omega arith) in (record { is = rw t; most = rw t (omega arith) }, t)

pub never_holds : {b : ℕ} → Holds b (inf false) never
never_holds = (record { is = rw time_never; most = rw time_never tt }, time_never)

-- A bound can be raised.
pub held_more : {b c : ℕ} {x : Float} → b ≤ c → Held b x → Held c x
held_more {b} {c} {x} l h = record { is = h.is; most = weaker (time_of x) l h.most }

-- A message.
add_times : (b n : ℕ) (t : Time) → Fine (b + n) → Within b t → Holds (b + n) (add binary64 (float_of t) (whole n)) (after n t)
add_times b n never h w = rw (never_add n (omega arith)) never_holds
add_times b n (tick a) h w = rw (add_whole a n (omega arith) (omega arith)) (whole_holds (a + n) (b + n) h (omega arith))

pub add_holds : {b : ℕ} {x : Float} {t : Time} → Holds b x t → (n : ℕ) → Fine (b + n) → Holds (b + n) (add binary64 x (whole n)) (after n t)
add_holds {b} {x} {t} h n l =
    subst (λ (z : Float). Holds (b + n) (add binary64 z (whole n)) (after n t)) (sym h.0.is)
    (rw (← h.1) (add_times b n (time_of x) l h.0.most))

pub sent_holds : {b : ℕ} {x : Float} {t : Time} → Holds b x t → (v d : ℕ) → Fine v → Fine d → Fine (b + v * d) → Holds (b + v * d) (sent x v d) (after (v * d) t)
sent_holds h v d f g l = rw (mul_whole v d f g) (add_holds h (v * d) l)

-- The comparison.
abbrev before : Time → Time → Bool
before (tick a) (tick b) = ltb a b
before (tick a) never = true
before never t = false

lt_times : (b : ℕ) (s t : Time) → Fine b → Within b s → Within b t → lt (float_of s) (float_of t) ≡ before s t
lt_times b (tick m) (tick n) f v w = lt_whole m n (omega arith) (omega arith)
lt_times b (tick m) never f v w = lt_never m (omega arith)
lt_times b never (tick n) f v w = never_lt n (omega arith)
lt_times b never never f v w = never_lt_never

sooner_yes : (s t : Time) → before s t ≡ true → s ≡ sooner t s
sooner_yes (tick a) (tick b) e = let l : a < b = ltb-true a b e in ap tick (omega arith)
sooner_yes (tick a) never e = refl
sooner_yes never t e = cc

sooner_no : (s t : Time) → before s t ≡ false → t ≡ sooner t s
sooner_no (tick a) (tick b) e = let l : b ≤ a = ltb-false a b e in ap tick (omega arith)
sooner_no (tick a) never e = cc
sooner_no never (tick b) e = refl
sooner_no never never e = refl

later_yes : (s t : Time) → before s t ≡ true → t ≡ later s t
later_yes (tick a) (tick b) e = let l : a < b = ltb-true a b e in ap tick (omega arith)
later_yes (tick a) never e = refl
later_yes never t e = cc

later_no : (s t : Time) → before s t ≡ false → s ≡ later s t
later_no (tick a) (tick b) e = let l : b ≤ a = ltb-false a b e in ap tick (omega arith)
later_no (tick a) never e = cc
later_no never t e = refl

no_later_no : (s t : Time) → before s t ≡ false → NoLater t s
no_later_no (tick a) (tick b) e = let l : b ≤ a = ltb-false a b e in ap tick (omega arith)
no_later_no (tick a) never e = cc
no_later_no never (tick b) e = refl
no_later_no never never e = refl

no_later_yes : (s t : Time) → before s t ≡ true → NoLater s t
no_later_yes (tick a) (tick b) e = let l : a < b = ltb-true a b e in ap tick (omega arith)
no_later_yes (tick a) never e = refl
no_later_yes never t e = cc

module _ {b : ℕ} {x y : Float} {s t : Time} (f : Fine b) (h : Holds b x s) (k : Holds b y t) where
  lt_time : lt x y ≡ before s t
  lt_time =
      ap (λ (z : Float). lt z y) h.0.is ∙ ap (λ (z : Float). lt (float_of (time_of x)) z) k.0.is
      ∙ rw (← h.1, ← k.1) (lt_times b (time_of x) (time_of y) f h.0.most k.0.most)

  -- The lesser and the greater.
  pub lesser_holds : Holds b (lesser x y) (sooner t s)
  lesser_holds = by (lt x y) (sym lt_time)
    where
      by : (v : Bool) → before s t ≡ v → Holds b (if v then x else y) (sooner t s)
      by true e = (h.0, h.1 ∙ sooner_yes s t e)
      by false e = (k.0, k.1 ∙ sooner_no s t e)

  pub greater_holds : Holds b (greater x y) (later s t)
  greater_holds = by (lt x y) (sym lt_time)
    where
      by : (v : Bool) → before s t ≡ v → Holds b (if v then y else x) (later s t)
      by true e = (k.0, k.1 ∙ later_yes s t e)
      by false e = (h.0, h.1 ∙ later_no s t e)

  -- What the comparison tells.
  pub lt_no : lt x y ≡ false → NoLater t s
  lt_no e = no_later_no s t (sym lt_time ∙ e)

  lesser_no_later : NoLater (sooner t s) s × NoLater (sooner t s) t
  lesser_no_later = by (before s t) refl
    where
      by : (v : Bool) → before s t ≡ v → NoLater (sooner t s) s × NoLater (sooner t s) t
      by true e = rw (← sooner_yes s t e) (no_later_self s, no_later_yes s t e)
      by false e = rw (← sooner_no s t e) (no_later_no s t e, no_later_self t)

-- A float that is held is one of the list.
not_nan : {b : ℕ} → Held b nan → ⊥
unfolding time_of
not_nan h = let e : nan ≡ inf false = h.is in cc

pub held_in : {b : ℕ} (xs : List Float) (p : ℕ) → Held b (lane xs p) → p < length xs
held_in xs p h = lt_of_not-le (λ (g : length xs ≤ p). not_nan (rw (get_or-eq_default xs nan g) at h))

-- The least of some lanes is no later than each.
pub least_holds : {b : ℕ} → Fine b → (n : ℕ) (xs : List Float) → ((p : ℕ) → p < n → Held b (lane xs p))
    → Held b (least_lane n xs) × ((p : ℕ) → p < n → NoLater (time_of (least_lane n xs)) (lane_time xs p))
unfolding least_lane
least_holds f zero xs h = (never_holds.0, λ p l. absurd (omega arith))
least_holds {b} f (suc n) xs h =
    let (k, m) = least_holds f n xs (λ p l. h p (omega arith)) in
    let x : Holds b (lane xs n) (lane_time xs n) = (h n (omega arith), refl) in
    let y : Holds b (least_lane n xs) (time_of (least_lane n xs)) = (k, refl) in
    let (g, e) = lesser_holds f x y in
    let (here, there) = lesser_no_later f x y in (
      g,
      λ p l. rw e (by (least_lane n xs) p l here there m),
    )
  where
    by : (z : Float) (p : ℕ) → p < suc n → NoLater (sooner (time_of z) (lane_time xs n)) (lane_time xs n) → NoLater (sooner (time_of z) (lane_time xs n)) (time_of z)
        → ((q : ℕ) → q < n → NoLater (time_of z) (lane_time xs q)) → NoLater (sooner (time_of z) (lane_time xs n)) (lane_time xs p)
    by z p l here there m = ⊎_elim
        (λ (e : p ≡ n). rw e here)
        (λ k. no_later_then (sooner (time_of z) (lane_time xs n)) (time_of z) (lane_time xs p) there (m p k))
        (last_or_before n p l)

-- The number in a float, through a signed cell; the test for never.
abbrev is_never : Time → Bool
is_never never = true
is_never (tick n) = false

signed_times : (b : ℕ) (t : Time) → Fine b → Within b t → (n : ℕ) → t ≡ tick n → T (in_signed binary64 63 (float_of t)) × (to_signed 63 (float_of t) ≡ pos n) × (n ≤ b)
signed_times b never f w n e = absurd (cc)
signed_times b (tick m) f w n e = let q = to_signed_lem m (omega arith) 63 (omega arith) in let k : m ≡ n = cc in (q.0, q.1 ∙ ap pos k, omega arith)

pub signed_holds : {b : ℕ} {x : Float} → Fine b → Held b x → (n : ℕ) → time_of x ≡ tick n → T (in_signed binary64 63 x) × (to_signed 63 x ≡ pos n) × (n ≤ b)
signed_holds {b} {x} f h n e =
    subst (λ (z : Float). T (in_signed binary64 63 z) × (to_signed 63 z ≡ pos n) × (n ≤ b)) (sym h.is) (signed_times b (time_of x) f h.most n e)

never_times : (b : ℕ) (t : Time) → Fine b → Within b t → eq (float_of t) (inf false) ≡ is_never t
never_times b never f w = never_eq_never
never_times b (tick n) f w = eq_never n (omega arith)

-- Never, or a tick, by the test.
pub never_yes : {b : ℕ} {x : Float} → Fine b → Held b x → eq x (inf false) ≡ true → time_of x ≡ never
never_yes {b} {x} f h e = by (time_of x) (sym (ap (λ (z : Float). eq z (inf false)) h.is ∙ never_times b (time_of x) f h.most) ∙ e)
  where
    by : (t : Time) → is_never t ≡ true → t ≡ never
    by never e = refl
    by (tick n) e = cc

pub never_no : {b : ℕ} {x : Float} → Fine b → Held b x → eq x (inf false) ≡ false → (n : ℕ) × (time_of x ≡ tick n)
never_no {b} {x} f h e = by (time_of x) (sym (ap (λ (z : Float). eq z (inf false)) h.is ∙ never_times b (time_of x) f h.most) ∙ e)
  where
    by : (t : Time) → is_never t ≡ false → (n : ℕ) × (t ≡ tick n)
    by never e = absurd (cc)
    by (tick n) e = (n, refl)

-- The literal 0.0.
pub zero_literal : of_bits binary64 0 ≡ whole 0
unfolding of_bits of_int
zero_literal = refl
