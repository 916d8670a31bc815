-- The edges' cells stand after those of the C and D lines, and are linked.
use Rattle.lists.proofs.Prelude.{◌≡◌, sym, ◌∙◌, List, [], map, ℕ, arith, length, take, length-take, nth, document01, found, lines, Edge, edge_line, edge_rule, job_head_of}
use Rattle.orders.specs.Edges.{edge_in}
use Rattle.orders.proofs.PairLaws.{linkable_made}
use Rattle.jobs.proofs.AnswerLaws.{loaded_err}
use Rattle.jobs.proofs.CellLaws.{cells_of, edges_read, edges_fit_lem, edges_part, edges_in}
use Rattle.jobs.proofs.StageLaws.{edges_within, lines_ascend, edges_no, edges_closed}
use Rattle.jobs.proofs.job.load_edges.Goals as goal
use Rattle.jobs.proofs.job.load_edges.Goals.{In_ok-read_edges}

-- The edges that were read.
abbrev edges_of : In_ok-read_edges → List Edge
edges_of c = map edge_in (take (nth c.args.mem.now 2) c.read_edges.new.mem)

edges_found : (c : In_ok-read_edges)
    → lines (edge_line document01) (edge_rule document01 (nth c.args.mem.now 0)) (nth c.args.mem.now 2) [] c.args.reader
    ≡ found (edges_of c) c.read_edges.new.reader
edges_found c = sym (c.in_ok-read_edges.ensures.read ∙ edges_read _ c.requires _ c.edges_at-a.ensures)

pub close-requires : goal.close-requires
close-requires c =
    let d = c.args.mem.now in
    let held : List ℕ = c.read_edges.new.mem in
    let read = edges_found (goal.at.close-requires c).In_ok-read_edges in
    rw (edges_part d held c.requires c.edges_at-a.ensures)
    (linkable_made _ _ (length c.args.links.now) (omega (arith, length-take (nth d 2) held, c.requires.links_room))
    (edges_within _ _ _ _ _ _ read) (lines_ascend _ _ _ _ _ _ read))

pub returns : goal.returns
returns c = λ runs delays q.
    let d = c.args.mem.now in
    let held : List ℕ = c.read_edges.new.mem in
    let place = c.edges_at-a.ensures in
    let l = c.read_edges.auto.mem in
    let part = edges_part d held c.requires place in
    let e = rw part at c.close.ensures.0 in
    let k = rw part at c.close.ensures.1 in
    rw e
    (edges_closed _ (job_head_of d) runs delays _ _ _ _ _ (edges_found (goal.at.returns c).In_ok-read_edges) _ (edges_fit_lem d held c.requires place l)
    (edges_in d held c.requires place l runs delays q) (λ z. rw (cells_of (take (nth d 2) held)) (k (e ∙ z))))

pub returns-in_err-read_edges : goal.returns-in_err-read_edges
returns-in_err-read_edges c = λ runs delays q.
    let f = sym (c.in_err-read_edges.ensures.read ∙ edges_read _ c.requires _ c.edges_at-a.ensures) in
    loaded_err _ _ _ _ _ c.from_residual.ensures.1 (edges_no _ (job_head_of c.args.mem.now) runs delays _ _ f)
