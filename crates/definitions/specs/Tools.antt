-- The three entries for tables that are held outside, with document 01's limits. This file needs no reading: specs/Answers.antt says
-- what the tools answer, and its names are passed on; the lists here name all that unfolds when a table computes an answer.
use Rattle.std.specs.Prelude.{ℕ, List}
use Rattle.definitions.specs.Lists.{count_from, keep, any, all, last_of, same_numbers, distinct, sum, greatest}
use Rattle.definitions.specs.Limits.{document01}
use Rattle.definitions.specs.Text.{first_of, digits, exactly, number, numbers, line, width_from, width, low_digits, decimal, numbers_text, line_text, lines, lines_to_end, good, and_then}
use Rattle.definitions.specs.Job.{run_time, delay, incoming, outgoing, edge_order, preceded, remaining, circular, job_head, job_head_rule, run_rule, delay_rule, edge_line, edge_rule, job_lines, read_job}
use Rattle.definitions.specs.Plan.{triples, descends, plan_head, plan_head_rule, strays, plan_line, plan_line_rule, plan_lines, read_plan, replica_numbers, plan_lines_text, plan_text}
use Rattle.definitions.specs.Stops.{stop_line, stop_rule, read_stops}
use Rattle.definitions.specs.Times.{least, largest, of_task, on_processor, first_ready, ready, feeding, arrival, data_ready, start, stop_time, finish, walk, placements, earlies, lates, exits, makespan, lower_bound, upper_bound}
use Rattle.definitions.specs.Refusals.{doubled_tasks, replicas_of, same_times, ticks_agree, bounds_agree, plan_refusal}
use Rattle.definitions.specs.Planner.{greatest_of, waiting_from, scaled_run, total_delay, raised, settled, bottom_levels, largest_delay, top_level, free_tasks, ranked, critical_task, trial, chosen, replicas, place, plan_for}
use Rattle.definitions.specs.Replay.{replay, first_finish, lowest, first_processor, replay_makespan, result_lines, replay_text}
pub use Rattle.definitions.specs.Answers.{Verdict, accepted, doubled, rejected}
unfoldable pub use Rattle.definitions.specs.Answers.{fitting, Says, planned, plan_answer, verdict_of, verdict_for, verdict_on, verdict, replayed, replay_answer, printed, check_printed, numbered}

-- What the plan program prints for a job's bytes.
unfoldable pub plan_printed : List ℕ → List ℕ
unfolding count_from keep any all same_numbers distinct sum greatest first_of digits exactly number numbers line width_from width low_digits
    decimal numbers_text line_text lines lines_to_end run_time delay incoming outgoing edge_order preceded remaining circular job_head job_head_rule
    run_rule delay_rule edge_line edge_rule job_lines read_job replica_numbers plan_lines_text plan_text least largest last_of of_task on_processor first_ready ready feeding arrival data_ready
    start stop_time finish walk exits makespan placements earlies lates lower_bound upper_bound greatest_of waiting_from scaled_run total_delay raised settled
    bottom_levels largest_delay top_level free_tasks ranked critical_task trial chosen replicas place plan_for planned
plan_printed job = printed document01 (and_then (read_job document01 job) (λ j. good (planned document01 j)))

-- What the replay program prints for a job's, a plan's and a stop list's bytes.
unfoldable pub replay_printed : List ℕ → List ℕ → List ℕ → List ℕ
unfolding count_from keep any all same_numbers distinct sum greatest first_of digits exactly number numbers line width_from width low_digits
    decimal numbers_text line_text lines lines_to_end run_time delay incoming outgoing edge_order preceded remaining circular job_head job_head_rule
    run_rule delay_rule edge_line edge_rule job_lines read_job triples descends plan_head plan_head_rule strays plan_line plan_line_rule plan_lines
    read_plan stop_line stop_rule read_stops least largest last_of of_task on_processor first_ready ready feeding arrival data_ready start stop_time finish walk exits makespan placements replay
    first_finish lowest first_processor replay_makespan result_lines replay_text replayed
replay_printed job plan stops = printed document01 (replayed document01 job plan stops)

-- The checker's number for a job's and a plan's bytes, 0 for OK, and with 12 the tasks of which it is true, in plan order.
unfoldable pub check_number : List ℕ → List ℕ → ℕ × List ℕ
unfolding count_from keep any all same_numbers distinct sum greatest first_of digits exactly number numbers line width_from width low_digits
    decimal numbers_text line_text lines lines_to_end run_time delay incoming outgoing edge_order preceded remaining circular job_head job_head_rule
    run_rule delay_rule edge_line edge_rule job_lines read_job triples descends plan_head plan_head_rule strays plan_line plan_line_rule plan_lines
    read_plan least largest last_of of_task on_processor first_ready ready feeding arrival data_ready start stop_time finish walk exits makespan placements earlies lates lower_bound upper_bound
    doubled_tasks replicas_of same_times ticks_agree bounds_agree plan_refusal verdict
check_number job plan = numbered (verdict document01 job plan)
