-- Each processor has the later of its time and of the largest times of the edges passed; an edge that nobody waits for changes nothing.
use Rattle.lists.proofs.Prelude.{true, false, length, incoming, document01}
use Rattle.orders.proofs.Walk.{Passed}
use Rattle.jobs.specs.Held.{job_in}
use Rattle.ticks.specs.Floats.{lane_time}
use Rattle.rounds.proofs.TimeTables.{Gathered}
use Rattle.rounds.proofs.times.raise_data.Given as goal

abbrev pub invariant-loop-cell : goal.invariant-loop-cell
invariant-loop-cell l =
    Passed 0 (length l.cell-items) l.cell-items (incoming (job_in l.house.mem.now) l.t) l.cell-index
    × Gathered document01 l.house.capacity false (lane_time l.initial.starts.early) l.house.mem.now 0 l.cell-items l.cell-index l.starts.early
    × Gathered document01 l.house.capacity true (lane_time l.initial.starts.late) l.house.mem.now 0 l.cell-items l.cell-index l.starts.late
