-- Times in lanes of 64-bit floats: a tick is the float of that whole number, never is the infinity.
use Rattle.std.specs.Prelude.{◌≡◌, ℕ, ◌*◌, ◌/◌, false, List, pos, slice_index_or, Float}
use Rattle.std.specs.Float.{nan, inf, fin, binary64}
use Rattle.std.specs.Float.Ieee.{of_int, up, down}
use Rattle.definitions.specs.Times.{Time, tick, never}
use Rattle.definitions.specs.Claims.{Within}

-- The float of a whole number.
abbrev pub whole : ℕ → Float
whole n = of_int binary64 (pos n)

-- The float of a time.
abbrev pub float_of : Time → Float
float_of (tick n) = whole n
float_of never = inf false

-- The time in a float.
unfoldable pub time_of : Float → Time
time_of nan = never
time_of (inf s) = never
time_of (fin s m e) = tick (m * up e / down e)

-- The float is that of a time, which does not pass b if it comes.
pub record Held (b : ℕ) (x : Float) : Type 0 where
  pub is : x ≡ float_of (time_of x)
  pub most : Within b (time_of x)

-- Lane p of some, and its time.
abbrev pub lane : List Float → ℕ → Float
lane xs p = slice_index_or xs p nan

abbrev pub lane_time : List Float → ℕ → Time
lane_time xs p = time_of (lane xs p)
