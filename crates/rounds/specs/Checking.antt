-- What the checker's tests speak of: a plan that was read, and the ticks of its lines.
use Rattle.std.specs.Prelude.{◌≡◌, List, [], ◌∷◌, Bool, true, false, ℕ, ◌+◌, ◌<◌}
use Rattle.definitions.specs.Lists.{nth, In}
use Rattle.definitions.specs.Times.{Time}
use Rattle.heads.specs.Layout.{row_at, processor_at, time_at}
use Rattle.jobs.specs.Held.{job_in}
use Rattle.ticks.specs.Cells.{time_in}
use Rattle.plans.specs.Lines.{placed_in}
use Rattle.rounds.specs.Clocks.{finish_on, ClocksHeld}
use Rattle.ticks.specs.declared.clocks.Clocks.{Clocks}

-- The ready ticks of all processors after the first k lines.
abbrev pub ClocksAfter : ℕ → ℕ → List ℕ → Clocks → Type 0
ClocksAfter capacity k mem clocks = ClocksHeld clocks (job_in mem) (placed_in capacity false (nth mem 3 + 1) k mem) (placed_in capacity true (nth mem 3 + 1) k mem)

-- The early or late finish of replica c of line k by the equations, after the first k lines as they are written.
abbrev pub finish_in : ℕ → Bool → ℕ → ℕ → List ℕ → Time
finish_in capacity late k c mem = finish_on capacity late k mem (nth mem (row_at capacity k)) (nth mem (processor_at (row_at capacity k) c))

-- The ticks of the first c replicas of line k are the equations'.
abbrev pub AgreesTo : ℕ → ℕ → ℕ → List ℕ → Type 0
AgreesTo capacity k c mem = (late : Bool) (i : ℕ) → i < c → finish_in capacity late k i mem ≡ time_in (nth mem (time_at late (row_at capacity k) i))

-- All of line k are.
abbrev pub LineAgrees : ℕ → ℕ → List ℕ → Type 0
LineAgrees capacity k mem = AgreesTo capacity k (nth mem 3 + 1) mem

-- What is said of the tasks that have two replicas on one processor: there is none, or one of them.
abbrev pub DoubledBy : List ℕ → List ℕ → Type 0
DoubledBy ts [] = ts ≡ []
DoubledBy ts (t ∷ _) = In t ts × (t < 256)
