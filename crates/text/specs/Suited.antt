-- What the code needs of the limits: its cells have 64 bits, and it keeps a task's number in a byte.
use Rattle.std.specs.Prelude.{◌^◌, ◌-◌, ◌<◌, ◌≤◌}
use Rattle.std.proofs.Common.{arith}
use Rattle.definitions.specs.Limits.{Limits, document01}

pub record Suited (l : Limits) : Type 0 where
  -- every number that is read fits a cell
  pub number_fits : 10 ^ l.digits ≤ 2 ^ 64
  -- no tick is the greatest number of a cell, which stands for never
  pub tick_fits : l.tick < 2 ^ 64 - 1
  pub task_fits : l.tasks < 256

pub suited : Suited document01
suited = record { number_fits = omega arith; tick_fits = omega arith; task_fits = omega arith }
