-- The run of the edges that leave a task, and its place in the order, as they are read from the links; a run cut out of its cells.
use Rattle.lists.proofs.Prelude.{◌≡◌, refl, ◌∙◌, List, ℕ, zero, suc, ◌+◌, ◌-◌, ◌<◌, ◌≤◌, arith, length, take, drop, get_or-drop, nth, Edge, outgoing}
use Rattle.lists.proofs.ListLaws.{part_length, part_nth}
use Rattle.orders.specs.Links.{run, Run, out_start_at, order_at, link_in}
use Rattle.jobs.specs.Held.{edge_at, job_in, LinksHeld}
use Rattle.jobs.proofs.Held.{link_cell}

module _ {mem links : List ℕ} (l : LinksHeld mem links) {t : ℕ} (h : t < nth mem 0) where
  pub leaves_run : {g a b : ℕ} → g ≡ edge_at mem 0
      → (a ≡ link_in (nth mem 0) t (out_start_at (nth mem 0) t) links) × (b ≡ link_in (nth mem 0) t (out_start_at (nth mem 0) (t + 1)) links)
      → Run (g + a) (g + b) mem (outgoing (job_in mem) t) × (g + b ≤ edge_at mem (nth mem 2))
  leaves_run {g} {a} {b} e s =
      let x = s.0 ∙ link_cell l h _ in
      let y = s.1 ∙ link_cell l h _ in
      let p : edge_at mem (nth links (out_start_at (nth mem 0) t)) ≡ g + a = omega (arith, e, x) in
      let q : edge_at mem (nth links (out_start_at (nth mem 0) (t + 1))) ≡ g + b = omega (arith, e, y) in
      (rw (p, q) at (l.outs t h), omega (arith, q, l.within t h))

  -- Task t of the order.
  pub task_of_order : link_in (nth mem 0) t (order_at (nth mem 0) t) links ≡ nth (drop (order_at (nth mem 0) 0) links) t
  task_of_order =
      let p : order_at (nth mem 0) t ≡ order_at (nth mem 0) 0 + t = omega arith in
      link_cell l h _ ∙ rw (p, get_or-drop)

-- The cells of a run, cut out, are a run.
module _ (a m : ℕ) (cells : List ℕ) where
  part_run : (n : ℕ) → n ≤ m → run 0 n (take m (drop a cells)) ≡ run a n cells
  unfolding run
  part_run zero h = refl
  part_run (suc n) h = let z : 0 + n ≡ n = omega arith in rw (z, part_nth cells a m n (omega arith), part_run n (omega arith))

pub run_part : {a b : ℕ} {cells : List ℕ} {es : List Edge} → Run a b cells es → let part = take (b - a) (drop a cells) in Run 0 (length part) part es
run_part {a} {b} {cells} r =
    let n = part_length cells a (b - a) (omega (arith, r.rises, r.within)) in
    let z : length (take (b - a) (drop a cells)) - 0 ≡ b - a = omega (arith, n) in
    record { rises = omega arith; within = omega arith; edges = rw z (part_run a (b - a) cells (b - a) (omega arith) ∙ r.edges) }
