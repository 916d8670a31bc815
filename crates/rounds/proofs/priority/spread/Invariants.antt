-- x is the least over the replicas passed.
use Rattle.lists.proofs.Prelude.{◌≡◌, ◌≤◌, ◌<◌, document01}
use Rattle.ticks.specs.Cells.{never_cell, time_in}
use Rattle.rounds.specs.Planning.{spread_in, spread_most}
use Rattle.rounds.proofs.priority.spread.Given as goal

abbrev pub invariant-loop-c : goal.invariant-loop-c
invariant-loop-c l = (l.x ≤ never_cell) × (0 < l.c → l.x ≤ spread_most document01) × (time_in l.x ≡ spread_in l.house.capacity l.edge.volume l.edge.row l.c l.house.mem.now)
