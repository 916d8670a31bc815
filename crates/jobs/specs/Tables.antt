-- What the tables behind a job need of the limits: the cells of a line, a lane for each processor, ticks of 32 bits.
use Rattle.std.specs.Prelude.{ℕ, ◌+◌, ◌-◌, ◌*◌, ◌^◌, ◌<◌, ◌≤◌}
use Rattle.std.proofs.Common.{arith}
use Rattle.definitions.specs.Limits.{Limits, document01}
use Rattle.heads.specs.Layout.{replicas_most, lanes_most}

-- What a message takes at most.
abbrev pub message_most : Limits → ℕ
message_most l = l.volume * l.delay

-- What a line of a plan, or a replica of a round, adds to a tick at most: a run and a message.
abbrev pub line_ticks : Limits → ℕ
line_ticks l = l.run_time + message_most l

-- No tick of a round passes this.
abbrev pub last_short : ℕ
last_short = 4_200_000_000

pub record Tabled (l : Limits) : Type 0 where
  -- a line's cells hold the most replicas
  pub row_fits : l.losses + 1 ≤ replicas_most
  -- there is a lane for each processor
  pub lanes_fit : l.processors ≤ lanes_most
  -- the ticks of a round are short, and in a plan's range
  pub round_short : l.tasks * (replicas_most * line_ticks l) ≤ last_short
  pub round_range : l.tasks * (replicas_most * line_ticks l) ≤ l.tick
  -- a message and a run after a short tick fit 32 bits, of which the greatest number is never
  pub lane_fits : last_short + line_ticks l < 2 ^ 32 - 1
  -- a message after any tick is a whole number that a float holds, and so fits a cell, of which the greatest number is never
  pub cell_fits : l.tick + message_most l ≤ 2 ^ 53

pub tabled : Tabled document01
tabled =
    record {
      row_fits = omega arith;
      lanes_fit = omega arith;
      round_short = omega arith;
      round_range = omega arith;
      lane_fits = omega arith;
      cell_fits = omega arith;
    }
