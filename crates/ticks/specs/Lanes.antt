-- What is done on all processors at once, in lanes of 64-bit floats.
use Rattle.std.specs.Prelude.{ℕ, zero, suc, ◌+◌, ◌*◌, ◌/◌, ◌%◌, ◌^◌, false, List, ◌==◌, nat_lt, slice_set, Float, if◌then◌else◌}
use Rattle.std.specs.Float.{binary64, inf}
use Rattle.std.specs.Float.Ieee.{add, mul, lt}
use Rattle.definitions.specs.Lists.{nth}
use Rattle.ticks.specs.Floats.{whole, lane}

-- The first n lanes, each changed by f, which is given the lane's number and what it holds.
unfoldable pub lanes : (ℕ → Float → Float) → ℕ → List Float → List Float
lanes f zero xs = xs
lanes f (suc n) xs = slice_set (lanes f n xs) n (f n (lane xs n))

-- The lesser and the greater of two floats.
abbrev pub lesser : Float → Float → Float
lesser x y = if lt x y then x else y

abbrev pub greater : Float → Float → Float
greater x y = if lt x y then y else x

-- When a message that is sent at x arrives.
abbrev pub sent : Float → ℕ → ℕ → Float
sent x volume delay = add binary64 x (mul binary64 (whole volume) (whole delay))

-- Where the table of delays, a row of 16 for each sender, has those from q to the processors of half h.
abbrev pub delay_at : ℕ → ℕ → ℕ
delay_at q h = q % 16 * 16 + h % 2 * 8

-- The lane of processor q in a table of half h, or the ninth one, which is of none of them.
abbrev pub lane_in : ℕ → ℕ → ℕ
lane_in q h = if q / 8 == h then q % 8 else 8

-- The least of the first n lanes; the infinity, of none.
unfoldable pub least_lane : ℕ → List Float → Float
least_lane zero xs = inf false
least_lane (suc n) xs = lesser (lane xs n) (least_lane n xs)

-- Ready ticks after the first n replicas of a line, of three cells each, with the tick that is o cells behind the processor; one on no
-- processor that has a clock changes none.
unfoldable pub advanced : ℕ → ℕ → List ℕ → List ℕ → List ℕ
advanced o zero cells clocks = clocks
advanced o (suc n) cells clocks =
    let before = advanced o n cells clocks in
    if nat_lt (nth cells (3 * n)) 16 then slice_set before (nth cells (3 * n)) (nth cells (3 * n + o) % 2 ^ 32) else before
