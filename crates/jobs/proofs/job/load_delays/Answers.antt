-- The D lines' cells stand after those of the C lines, and the rest is as load_edges leaves it.
use Rattle.lists.proofs.Prelude.{sym, ◌∙◌, List, map, ℕ, ◌+◌, arith, drop, bytes, nth, job_head_of}
use Rattle.rows.specs.Rows.{rows}
use Rattle.jobs.proofs.AnswerLaws.{loaded_err}
use Rattle.jobs.proofs.CellLaws.{runs_most, delays_read, lent_head, lent_headed, delays_in}
use Rattle.jobs.proofs.StageLaws.{delays_no, delays_then}
use Rattle.jobs.proofs.job.load_delays.Goals as goal

pub load_edges-requires : goal.load_edges-requires
load_edges-requires c =
    let held : List ℕ = c.read_rows.new.mem in
    let r = runs_most c.requires in
    let a = c.numbers_at-a.ensures in
    lent_headed c.args.mem.now held _ (omega arith) (omega arith) c.read_rows.auto.mem c.requires

pub returns : goal.returns
returns c = λ runs q.
    let held : List ℕ = c.read_rows.new.mem in
    let d = c.args.mem.now in
    let ds = rows (1 + nth d 1) (nth d 1) held in
    let r = runs_most c.requires in
    let a = c.numbers_at-a.ensures in
    let f = sym (c.in_ok-read_rows.ensures.read ∙ delays_read d c.requires (bytes "D,") _ a) in
    delays_then _ (job_head_of d) runs _ _ _ ds _ f _ (lent_head d held _ (omega arith) (omega arith)) _
    (c.load_edges.ensures runs (map (drop 1) ds) (delays_in d held c.requires a runs q _ _ f))

pub returns-in_err-read_rows : goal.returns-in_err-read_rows
returns-in_err-read_rows c = λ runs q.
    let f = sym (c.in_err-read_rows.ensures.read ∙ delays_read c.args.mem.now c.requires (bytes "D,") _ c.numbers_at-a.ensures) in
    loaded_err _ _ _ _ _ c.from_residual.ensures.1 (delays_no _ (job_head_of c.args.mem.now) runs _ _ f)
