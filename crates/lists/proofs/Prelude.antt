-- The names that proofs bring in by one line: of the kit's libraries, and of what document 01 says.
pub use Rattle.std.specs.Prelude.{if◌then◌else◌}
pub use mathlib.Core.Path.{◌∙◌, ◌≡◌, ap, ap₂, refl, subst, sym}
pub use mathlib.Core.Logic.{◌⊎◌, inl, inr, ⊎_elim}
pub use mathlib.Core.Bool.{Bool, ◌&&◌, ◌||◌, and-false, and-true, false, false≢true, not, or-false, true, true≢false}
pub use mathlib.Core.List.{List, [], ◌++◌, ◌∷◌, append_assoc, append-nil, get_last?, map, map-append, map-map, reverse, reverse-append, reverse_aux}
pub use mathlib.Core.Option.{none, some}
pub use Prim.Native.Nat.{◌%◌, ◌*◌, ◌+◌, ◌-◌, ◌/◌, ◌<◌, ◌^◌, ◌≤◌, max, min, suc, zero, ℕ}
pub use native.Mathlib.Nat.{add-mul, add-zero, mul-le-mul, sub-zero, suc-mul, zero-mul}
pub use native.Mathlib.Numerals.{add-one}
pub use native.Mathlib.Omega.{arith}
pub use borrow.Author.Rules.{rules}
pub use borrow.Author.Tests.{eq-eqb, eqb-false, eqb-true, le-leb, le-ltb, leb-false, leb-true, lt-leb, lt-ltb, ltb-false, ltb-true, ne_eqb, not-false, not-true}
pub use lib.Dec.{eqb, leb, ltb}
pub use lib.ListN.{get_or-append as List·getD-append, get_or-map as List·getD-map, drop, drop_of_length-le, get_or, get_or-replicate, length, length-append, length-drop, length-map, length-replicate, length-set, length-take, replicate, set, take}
pub use lib.Seq.{drop_at, drop-cons, drop-set-lt, ext_get_or, get_or-drop, get_or-set_other, get_or-set_same, get_or-take, length-take-le, take-add, take_all, take-length, take-suc, take-take}
pub use Rattle.definitions.specs.Claims.{PlacedWithin}
pub use Rattle.definitions.specs.Facts.{JobFacts, LineFacts, Ordered}
pub use Rattle.definitions.specs.Job.{Ascends, Edge, Job, JobHead, edge_of, job_head_of, outside, same_pair, smaller}
unfoldable pub use Rattle.definitions.specs.Job.{circular, delay, delay_rule, edge_line, edge_rule, incoming, job_head_rule, outgoing, read_job, run_rule, run_time}
pub use Rattle.definitions.specs.Limits.{Limits, document01}
pub use Rattle.definitions.specs.Lists.{In, below, bytes, empty, has, nth}
unfoldable pub use Rattle.definitions.specs.Lists.{all, any, count_from, distinct, greatest, keep, sum}
pub use Rattle.definitions.specs.Plan.{Line, Plan, Replica, plan_head_of, processors_of}
unfoldable pub use Rattle.definitions.specs.Plan.{descends, plan_head_rule, plan_line_rule, plan_text, read_plan}
pub use Rattle.definitions.specs.Planner.{Waiting, goes_before, scale, tick_of}
unfoldable pub use Rattle.definitions.specs.Planner.{bottom_levels, free_tasks, largest_delay, place, plan_for, ranked, replicas, scaled_run, top_level, total_delay, trial, waiting_from}
unfoldable pub use Rattle.definitions.specs.Refusals.{doubled_tasks, bounds_agree, ticks_agree}
pub use Rattle.definitions.specs.Replay.{end_line, result_line}
unfoldable pub use Rattle.definitions.specs.Replay.{first_processor, first_finish, lowest, replay, replay_text, result_lines, replay_makespan}
pub use Rattle.definitions.specs.Stops.{Stop}
unfoldable pub use Rattle.definitions.specs.Stops.{read_stops}
pub use Rattle.definitions.specs.Text.{Reader, Reading, Result, and_then, bad, due, ended, found, good, is_digit, mark, next, refused, return}
unfoldable pub use Rattle.definitions.specs.Text.{decimal, digits, exactly, first_of, line, line_text, lines, number, numbers, numbers_text, width, width_from}
pub use Rattle.definitions.specs.Times.{Placement, Outcome, Time, after, placements_of, placement_of, later, never, outcome, same, sooner, tick, times}
unfoldable pub use Rattle.definitions.specs.Times.{arrival, placements, data_ready, earlies, makespan, exits, finish, largest, lates, least, of_task, ready, start, stop_time, walk}
pub use Rattle.definitions.specs.Tools.{Says, Verdict, fitting, printed, verdict_for}
unfoldable pub use Rattle.definitions.specs.Tools.{plan_answer, plan_printed, planned, replay_answer, replay_printed, replayed, verdict}
