-- The ready ticks in lanes, raised to the data, and a run after them.
use lib.Ieee.{Float}
use Rattle.lists.proofs.Prelude.{◌≡◌, refl, Bool, List, ℕ, ◌<◌, ◌∙◌, arith, true, false, nth, document01, tick, later}
use Rattle.ticks.specs.Floats.{lane_time}
use Rattle.rounds.specs.Arrivals.{TicksHeld, TimeTable}
use Rattle.rounds.specs.Schedule.{data_in}
use Rattle.rounds.proofs.TimeTables.{table_held, table_ticks, supplied_lanes, starts_held}
use Rattle.rounds.proofs.times.finishes.Goals as goal
use Rattle.rounds.proofs.times.finishes.Goals.{After-floats-2, After-raise_data}

first : (c : After-floats-2) → TimeTable document01 (λ p. tick (nth c.args.ready.now.early p)) c.args.house.mem.now c.floats.result
first c = table_ticks c.args.ready.now.early c.requires.0.1.job (omega arith) c.requires.4 c.floats.ensures

last : (c : After-floats-2) → TimeTable document01 (λ p. tick (nth c.args.ready.now.late p)) c.args.house.mem.now c.floats-2.result
last c = table_ticks c.args.ready.now.late c.requires.0.1.job (omega arith) c.requires.5 c.floats-2.ensures

-- The lanes of e hold the starts, if the processors are ready at these ticks.
abbrev Started : After-raise_data → Bool → List ℕ → List Float → Type 0
Started c late ticks e = let mem = c.args.house.mem.now in TicksHeld document01 mem e
    × ((p : ℕ) → p < nth mem 1 → lane_time e p ≡ later (tick (nth ticks p)) (data_in c.args.house.capacity late c.args.t p mem))

early : (c : After-raise_data) → Started c false c.args.ready.now.early c.raise_data.new.starts.early
early c =
    let p = c.requires in
    starts_held false c.args.ready.now.early p.0.1 c.args.t p.3 p.4 (first (goal.at.After-raise_data c).After-floats-2) c.raise_data.ensures.0

late : (c : After-raise_data) → Started c true c.args.ready.now.late c.raise_data.new.starts.late
late c =
    let p = c.requires in
    starts_held true c.args.ready.now.late p.0.1 c.args.t p.3 p.5 (last (goal.at.After-raise_data c).After-floats-2) c.raise_data.ensures.1

pub raise_data-requires : goal.raise_data-requires
raise_data-requires c =
    let (s, delays, t, _, _, _, y, links) = c.requires in
    let e = first (goal.at.raise_data-requires c).After-floats-2 in
    let f = last (goal.at.raise_data-requires c).After-floats-2 in
    (s, links, delays, t, supplied_lanes s.1 c.args.t y e f, table_held e, table_held f)

pub run_lanes-requires : goal.run_lanes-requires
run_lanes-requires c =
    let p = c.requires in ((_, p.0.1.job), p.2, (early (goal.at.run_lanes-requires c).After-raise_data).0, rw c.new-finishes.ensures.0 refl)

pub run_lanes-requires-2 : goal.run_lanes-requires-2
run_lanes-requires-2 c =
    let p = c.requires in ((_, p.0.1.job), p.2, (late (goal.at.run_lanes-requires-2 c).After-raise_data).0, rw c.new-finishes.ensures.1 refl)

pub returns : goal.returns
returns c =
    let raised = (goal.at.returns c).After-raise_data in
    record {
      early_size = c.run_lanes.ensures.0;
      late_size = c.run_lanes-2.ensures.0;
      early_finish = λ p o. c.run_lanes.ensures.1 p o ∙ rw ((early raised).1 p o);
      late_finish = λ p o. c.run_lanes-2.ensures.1 p o ∙ rw ((late raised).1 p o);
    }
