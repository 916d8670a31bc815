-- Times in lanes and in cells: the casts between them, and when no processor waits.
use Rattle.lists.proofs.Prelude.{◌≡◌, refl, sym, subst, ◌∙◌, List, Bool, true, false, ℕ, ◌+◌, ◌*◌, ◌^◌, ◌<◌, ◌≤◌, arith, nth, Edge, Limits, document01, In, Time, tick, never, after, times}
use mir.Syntax.{w64}
use mir.Val.{to_z, of_z}
use mir.Facts.{to_z-of_z}
use lib.Dec.{T}
use lib.IntN.{pos}
use lib.Ieee.{Float, inf, binary64, add, lt, eq, in_unsigned, to_unsigned, in_signed, to_signed}
use Rattle.definitions.specs.Claims.{Within}
use Rattle.definitions.specs.Shelf.{NoLater}
use Rattle.definitions.proofs.Lists.{in_map}
use Rattle.definitions.proofs.Bounds.{least_within, largest_within}
use Rattle.heads.specs.Layout.{time_at}
use Rattle.ticks.specs.Cells.{time_in, Small}
use Rattle.ticks.specs.Floats.{whole, float_of, time_of, Held, lane}
use Rattle.ticks.proofs.Wholes.{Fine, to_unsigned_lem}
use Rattle.ticks.proofs.HeldLaws.{held_more, add_holds, lt_no, signed_holds, never_no}
use Rattle.plans.specs.Lines.{row_outcomes, RowHeld}
use Rattle.rounds.specs.Schedule.{choice_of}
use Rattle.rounds.specs.Arrivals.{lane_most, last_arrival, end_at, EdgeEnds}
use Rattle.rounds.proofs.TimeLaws.{message_most_lem, small_within, within_small}
use Rattle.rounds.proofs.Placed.{in_row}

-- The number in a float, through a cell of 32 bits.
unsigned_times : (b : ℕ) (t : Time) → Fine b → Within b t → (n : ℕ) → t ≡ tick n → n < 2 ^ 32 → T (in_unsigned binary64 32 (float_of t)) × (to_unsigned 32 (float_of t) ≡ n)
unsigned_times b never f w n e l = let z : ◌≡◌ {A = ℕ} 0 1 = cc in absurd (omega arith)
unsigned_times b (tick m) f w n e l = let k : m ≡ n = cc in let q = to_unsigned_lem m (omega arith) 32 (omega arith) in (q.0, q.1 ∙ k)

pub unsigned_holds : {b : ℕ} {x : Float} → Fine b → Held b x → (n : ℕ) → time_of x ≡ tick n → n < 2 ^ 32 → T (in_unsigned binary64 32 x) × (to_unsigned 32 x ≡ n)
unsigned_holds {b} {x} f h n e l =
    subst (λ (z : Float). T (in_unsigned binary64 32 z) × (to_unsigned 32 z ≡ n)) (sym h.is) (unsigned_times b (time_of x) f h.most n e l)

-- A tick that a run leaves short, in a cell of 32 bits.
pub short_cast : {x : Float} → Held (lane_most document01) x → ((y : ℕ) × (time_of x ≡ tick y) × (y ≤ last_arrival document01))
    → T (in_unsigned binary64 32 x) × (time_of x ≡ tick (to_unsigned 32 x)) × (to_unsigned 32 x ≤ last_arrival document01)
short_cast h (y, e, l) = let (i, t) = unsigned_holds (omega arith) h y e (omega arith) in (i, rw t e, rw t l)

-- A float that is not never, in a signed cell.
pub signed_cast : {x : Float} → Held (lane_most document01) x → eq x (inf false) ≡ false
    → (n : ℕ) × (time_of x ≡ tick n) × T (in_signed binary64 63 x) × (to_z w64 (of_z w64 (to_signed 63 x)) ≡ pos n) × (n ≤ lane_most document01)
signed_cast h e =
    let (n, t) = never_no (omega arith) h e in
    let (i, s, l) = signed_holds (omega arith) h n t in
    (n, t, i, rw s (to_z-of_z {w = w64} {z = pos n} (record { sfits = omega arith })), l)

-- No processor that is ready at x waits for a message that is sent at z.
no_wait : (lim : Limits) {x z : Float} → Fine (lane_most lim) → (v d : ℕ) → v ≤ lim.volume → d ≤ lim.delay → Held lim.tick z → Held (lane_most lim) x
    → lt x (add binary64 z (whole (v * d))) ≡ false → NoLater (after (v * d) (time_of z)) (time_of x)
no_wait lim f v d a b h k e =
    let m = message_most_lem lim v d a b in
    let (g, t) = add_holds (h, refl) (v * d) (omega arith) in
    lt_no f (k, refl) (held_more (omega arith) g, t) e

-- Nor for those of an edge whose ends are noted.
pub no_waits : {a : Edge} {ends : List Float} {x y : Float} (t v d : ℕ) → EdgeEnds document01 a ends → Held (lane_most document01) x → Held (lane_most document01) y → d ≤ document01.delay
    → t ≡ a.from → v ≡ a.volume → lt x (add binary64 (lane ends (2 * t)) (whole (v * d))) ≡ false → lt y (add binary64 (lane ends (2 * t + 1)) (whole (v * d))) ≡ false
    → NoLater (after (a.volume * d) (time_of (lane ends (end_at false a.from)))) (time_of x) × NoLater (after (a.volume * d) (time_of (lane ends (end_at true a.from)))) (time_of y)
no_waits {a} {ends} t v d h k l m e f i j =
    let z : 2 * a.from + 0 ≡ 2 * t = omega arith in
    let w : 2 * a.from + 1 ≡ 2 * t + 1 = omega arith in
    let n : v ≤ document01.volume = omega (arith, h.volume_most) in (
      rw (z, ← f) (no_wait document01 (omega arith) v d n m (rw z at (h.held false)) k i),
      rw (w, ← f) (no_wait document01 (omega arith) v d n m (rw w at (h.held true)) l j),
    )

-- The choice among the times of a line is small.
module _ {lim : Limits} {a : ℕ} {mem : List ℕ} (h : RowHeld lim a mem) where
  time_most : (late : Bool) (c : ℕ) → c < nth mem 3 + 1 → Within lim.tick (time_in (nth mem (time_at late a c)))
  time_most true c l = small_within lim.tick _ (h.late_of c l)
  time_most false c l = small_within lim.tick _ (h.early_of c l)

  each_most : (late : Bool) (x : Time) → In x (times (row_outcomes late a (nth mem 3 + 1) mem)) → Within lim.tick x
  each_most late x i =
      let (d, j, e) = in_map (λ d. d.time) x (row_outcomes late a (nth mem 3 + 1) mem) i in
      let (c, l, q) = in_row late mem a (nth mem 3 + 1) d j in
      rw (← e, q) (time_most late c l)

  choice_most : (late : Bool) → Within lim.tick (choice_of late (times (row_outcomes late a (nth mem 3 + 1) mem)))
  choice_most true = largest_within lim.tick (times (row_outcomes true a (nth mem 3 + 1) mem)) (each_most true)
  choice_most false = least_within lim.tick (times (row_outcomes false a (nth mem 3 + 1) mem)) (each_most false)

  pub choice_small : (late : Bool) {r : ℕ} → time_in r ≡ choice_of late (times (row_outcomes late a (nth mem 3 + 1) mem)) → Small lim.tick r
  choice_small late {r} e = within_small lim.tick r (subst (λ (t : Time). Within lim.tick t) (sym e) (choice_most late))
