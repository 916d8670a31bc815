-- After c turns the two ends are the choices among the first c replicas of the line.
use Rattle.lists.proofs.Prelude.{◌≡◌, ◌≤◌, true, false}
use Rattle.ticks.specs.Cells.{never_cell, time_in}
use Rattle.rounds.proofs.MakespanLaws.{chosen_in}
use Rattle.rounds.proofs.times.ends_in.Given as goal

abbrev pub invariant-loop-c : goal.invariant-loop-c
invariant-loop-c l =
    (l.first ≤ never_cell) × (l.last ≤ never_cell)
    × (time_in l.first ≡ chosen_in false l.a l.c l.mem) × (time_in l.last ≡ chosen_in true l.a l.c l.mem)
