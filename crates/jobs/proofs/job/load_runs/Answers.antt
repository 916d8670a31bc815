-- The C lines' cells stand after the head, and the rest is as load_delays leaves it.
use Rattle.lists.proofs.Prelude.{sym, ◌∙◌, List, map, ℕ, ◌+◌, arith, drop, bytes, nth, job_head_of}
use Rattle.rows.specs.Rows.{rows}
use Rattle.jobs.proofs.AnswerLaws.{loaded_err}
use Rattle.jobs.proofs.CellLaws.{runs_read, lent_head, lent_headed, runs_in}
use Rattle.jobs.proofs.StageLaws.{runs_no, runs_then}
use Rattle.jobs.proofs.job.load_runs.Goals as goal

pub load_delays-requires : goal.load_delays-requires
load_delays-requires c =
    let held : List ℕ = c.read_rows.new.mem in
    lent_headed c.args.mem.now held 4 (omega (arith, c.requires.room)) (omega arith) c.read_rows.auto.mem c.requires

pub returns : goal.returns
returns c =
    let held : List ℕ = c.read_rows.new.mem in
    let d = c.args.mem.now in
    let rs = rows (1 + nth d 1) (nth d 0) held in
    let f = sym (c.in_ok-read_rows.ensures.read ∙ runs_read d c.requires (bytes "C,") _) in
    runs_then _ (job_head_of d) _ _ _ rs _ f _ (lent_head d held 4 (omega (arith, c.requires.room)) (omega arith)) _
    (c.load_delays.ensures (map (drop 1) rs) (runs_in d held c.requires _ _ f))

pub returns-in_err-read_rows : goal.returns-in_err-read_rows
returns-in_err-read_rows c =
    let f = sym (c.in_err-read_rows.ensures.read ∙ runs_read c.args.mem.now c.requires (bytes "C,") _) in
    loaded_err _ _ _ _ _ c.from_residual.ensures.1 (runs_no _ (job_head_of c.args.mem.now) _ _ f)
