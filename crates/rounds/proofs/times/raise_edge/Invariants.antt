-- The arrivals of the line of the task that the edge leaves, half after half.
use Rattle.lists.proofs.Prelude.{true, false, document01}
use Rattle.rounds.proofs.TimeTables.{HalvesRaised}
use Rattle.rounds.proofs.times.raise_edge.Given as goal

abbrev pub invariant-loop-h : goal.invariant-loop-h
invariant-loop-h l =
    HalvesRaised document01 l.h false l.edge.volume l.edge.row l.house.mem.now l.initial.starts.early l.starts.early
    × HalvesRaised document01 l.h true l.edge.volume l.edge.row l.house.mem.now l.initial.starts.late l.starts.late
