-- What the first lines of a plan give: the outcomes of their replicas, the clocks after them, and the finishes of a task placed next.
use Rattle.std.specs.Prelude.{◌≡◌, List, [], ◌++◌, Bool, true, false, ℕ, ◌+◌, ◌<◌, ◌≤◌, length}
use Rattle.definitions.specs.Lists.{nth}
use Rattle.definitions.specs.Limits.{Limits}
use Rattle.definitions.specs.Job.{Job}
use Rattle.definitions.specs.Times.{Time, tick, Outcome, ready, finish, placement_of}
use Rattle.definitions.specs.Shelf.{Settled}
use Rattle.heads.specs.Layout.{early_at, late_at, lanes_most}
use Rattle.jobs.specs.Held.{job_in, SomeJobHeld}
use Rattle.rounds.specs.Schedule.{choice_of}
use Rattle.plans.specs.Lines.{row_end, row_outcomes, placed_in, RowHeld}
use Rattle.ticks.specs.declared.clocks.Clocks.{Clocks}

-- The replicas of the first k lines with their early times, and with their late ones.
abbrev pub earlies_in : ℕ → ℕ → List ℕ → List Outcome
earlies_in capacity k mem = placed_in capacity false (nth mem 3 + 1) k mem

abbrev pub lates_in : ℕ → ℕ → List ℕ → List Outcome
lates_in capacity k mem = placed_in capacity true (nth mem 3 + 1) k mem

-- No replica of the first k lines finishes later than its processor is ready after it, early or late.
abbrev pub SettledTo : ℕ → ℕ → List ℕ → Type 0
SettledTo capacity k mem = (late : Bool) → Settled (job_in mem) (placed_in capacity late (nth mem 3 + 1) k mem)

-- The early or the late finish of task t on p, after the first k lines.
unfoldable pub finish_on : ℕ → Bool → ℕ → List ℕ → ℕ → ℕ → Time
finish_on capacity late k mem t p = finish (job_in mem) (choice_of late) [] (placed_in capacity late (nth mem 3 + 1) k mem) (placement_of (job_in mem) t p)

-- The clocks have the ready ticks of all processors after what is placed, with its early and its late times.
pub record ClocksHeld (clocks : Clocks) (j : Job) (es ls : List Outcome) : Type 0 where
  pub early_size : length clocks.early ≡ lanes_most
  pub late_size : length clocks.late ≡ lanes_most
  pub early_ready : (p : ℕ) → p < j.processors → tick (nth clocks.early p) ≡ ready j p es
  pub late_ready : (p : ℕ) → p < j.processors → tick (nth clocks.late p) ≡ ready j p ls

-- The line at a has ticks that clocks can show.
pub record LineTimed (l : Limits) (a : ℕ) (mem : List ℕ) : Type 0 where
  pub job : SomeJobHeld l mem
  pub row : RowHeld l a mem
  pub within : row_end a ≤ length mem
  pub ticks : (c : ℕ) → c < nth mem 3 + 1 → (nth mem (early_at a c) ≤ l.tick) × (nth mem (late_at a c) ≤ l.tick)

-- The clocks next are the clocks after the first c replicas of the line at a besides.
abbrev pub Advanced : ℕ → ℕ → List ℕ → Clocks → Clocks → Type 0
Advanced a c mem clocks next =
    (es ls : List Outcome) → ClocksHeld clocks (job_in mem) es ls → ClocksHeld next (job_in mem) (row_outcomes false a c mem ++ es) (row_outcomes true a c mem ++ ls)
