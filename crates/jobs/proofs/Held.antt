-- A job that stands in a memory: where its numbers are, and what a change elsewhere leaves as it was.
use Rattle.lists.proofs.Prelude.{◌≡◌, refl, ap, ◌∙◌, List, [], map, ℕ, ◌+◌, ◌*◌, ◌<◌, ◌≤◌, arith, mul-le-mul, length, length-map, nth, below, Edge, Job, job_head_of, run_time, delay, incoming, Limits}
use Rattle.definitions.proofs.Lists.{length_count}
use Rattle.orders.specs.Edges.{edge_in}
use Rattle.orders.specs.Links.{Run, in_start_at, link_in}
use Rattle.orders.proofs.LinkIn.{link_in_lem}
use Rattle.orders.proofs.RunLaws.{run_same}
use Rattle.heads.specs.Layout.{memory_size, job_size, edges_at, cells_for, largest, replicas_most, lanes_most}
use Rattle.jobs.specs.Tables.{Tabled}
use Rattle.jobs.specs.Held.{number_at, run_at, delay_at, edge_at, job_in, JobHeld, LinksHeld}
use Rattle.lists.specs.Kept.{KeptOutside}
use Rattle.rows.proofs.RowLaws.{row_ends}
use Rattle.lists.proofs.Counting.{get_or_below, below_same}
use Rattle.lists.proofs.Kept.{Same, same_before}

-- The parts of the job ----------------------------------------------------------------------------------------

module _ (mem : List ℕ) where
  pub tasks_in_lem : (job_in mem).tasks ≡ nth mem 0
  unfolding job_in
  tasks_in_lem = refl

  pub processors_in : (job_in mem).processors ≡ nth mem 1
  unfolding job_in
  processors_in = refl

  pub losses_in : (job_in mem).losses ≡ nth mem 3
  unfolding job_in
  losses_in = refl

  pub edges_in : (job_in mem).edges ≡ map (λ i. edge_in (nth mem (edge_at mem i))) (below (nth mem 2))
  unfolding job_in
  edges_in = refl

  pub length_edges : length (job_in mem).edges ≡ nth mem 2
  unfolding job_in
  length_edges = length-map (below (nth mem 2)) (λ i. edge_in (nth mem (edge_at mem i))) ∙ length_count 0 (nth mem 2)

  pub run_in : (t p : ℕ) → t < nth mem 0 → p < nth mem 1 → run_time (job_in mem) t p ≡ nth mem (run_at mem t p)
  unfolding job_in run_time
  run_in t p h g =
      let row : ℕ → List ℕ = λ t. map (λ p. nth mem (run_at mem t p)) (below (nth mem 1)) in
      ap (λ (r : List ℕ). nth r p) (get_or_below row (nth mem 0) t [] h) ∙ get_or_below (λ p. nth mem (run_at mem t p)) (nth mem 1) p 0 g

  pub delay_in : (p q : ℕ) → p < nth mem 1 → q < nth mem 1 → delay (job_in mem) p q ≡ nth mem (delay_at mem p q)
  unfolding job_in delay
  delay_in p q h g =
      let row : ℕ → List ℕ = λ p. map (λ q. nth mem (delay_at mem p q)) (below (nth mem 1)) in
      ap (λ (r : List ℕ). nth r q) (get_or_below row (nth mem 1) p [] h) ∙ get_or_below (λ q. nth mem (delay_at mem p q)) (nth mem 1) q 0 g

-- How large the job is ----------------------------------------------------------------------------------------

-- The numbers of the job's head are within their limits, and all its cells are in the job's part of the memory; a line's cells hold its
-- replicas, and there is a lane for each processor.
pub record Sizes (l : Limits) (capacity : ℕ) (mem : List ℕ) : Type 0 where
  pub size : length mem ≡ memory_size capacity
  pub some_task : 1 ≤ nth mem 0
  pub tasks_most : (nth mem 0 ≤ l.tasks) × (nth mem 0 ≤ 8 * capacity)
  pub some_processor : 1 ≤ nth mem 1
  pub processors_most : nth mem 1 ≤ l.processors
  pub lanes_fit : nth mem 1 ≤ lanes_most
  pub edges_most : (nth mem 2 ≤ l.edges) × (nth mem 2 ≤ 32 * capacity)
  pub losses_most : nth mem 3 ≤ l.losses
  pub row_fits : nth mem 3 + 1 ≤ replicas_most
  pub enough : nth mem 3 + 1 ≤ nth mem 1
  pub before_edges : edges_at (job_head_of mem) ≤ edges_at (largest l)
  pub cells_room : cells_for (job_head_of mem) ≤ job_size capacity
  pub tabled : Tabled l

pub sizes : {l : Limits} {capacity : ℕ} {mem : List ℕ} → JobHeld l capacity mem → Sizes l capacity mem
unfolding job_in
sizes {l} {mem} h =
    let f = h.facts in
    record {
      size = h.size;
      some_task = f.some_task;
      tasks_most = (f.tasks_most, h.fits.0);
      some_processor = f.some_processor;
      processors_most = f.processors_most;
      lanes_fit = omega (arith, f.processors_most, h.tabled.lanes_fit);
      edges_most = (omega (arith, f.edges_most, length_edges mem), h.fits.1);
      losses_most = f.losses_most;
      row_fits = omega (arith, f.losses_most, h.tabled.row_fits);
      enough = f.enough;
      before_edges = omega (
        arith,
        mul-le-mul {n₁ = nth mem 0 + nth mem 1} {m₁ = 1 + nth mem 1} {n₂ = l.tasks + l.processors} {m₂ = 1 + l.processors}
            (omega (arith, f.tasks_most, f.processors_most)) (omega (arith, f.processors_most)),
      );
      cells_room = h.fits.2;
      tabled = h.tabled;
    }

module _ {l : Limits} {capacity : ℕ} {mem : List ℕ} (s : Sizes l capacity mem) where
  -- The cells of row r, before the edges: the rows of the tasks, then those of the processors.
  pub row_cell : (r p : ℕ) → r < nth mem 0 + nth mem 1 → p < nth mem 1
      → number_at mem r p < edges_at (job_head_of mem)
  row_cell r p h g = omega (arith, row_ends r (nth mem 0 + nth mem 1) (1 + nth mem 1) h)

  pub row_below : (r p : ℕ) → r < nth mem 0 + nth mem 1 → p < nth mem 1 → number_at mem r p < job_size capacity
  row_below r p h g = omega (arith, row_cell r p h g)

  edge_below : (i : ℕ) → i < nth mem 2 → edge_at mem i < job_size capacity
  edge_below i h = omega arith

  -- The job is in its own cells.
  module _ {e : List ℕ} (k : Same 0 (job_size capacity) mem e) where
    edge_at_same : (i : ℕ) → edge_at e i ≡ edge_at mem i
    edge_at_same i = rw (k.cell 0 (omega arith) (omega arith), k.cell 1 (omega arith) (omega arith))

    edge_same : (i : ℕ) → i < nth mem 2 → edge_in (nth e (edge_at e i)) ≡ edge_in (nth mem (edge_at mem i))
    edge_same i h = rw (edge_at_same i, k.cell (edge_at mem i) (omega arith) (edge_below i h))

    runs_same : (t : ℕ) → t < nth mem 0
        → map (λ p. nth e (run_at e t p)) (below (nth e 1)) ≡ map (λ p. nth mem (run_at mem t p)) (below (nth mem 1))
    runs_same t h =
        below_same (λ p. nth e (run_at e t p)) (λ p. nth mem (run_at mem t p)) (k.cell 1 (omega arith) (omega arith))
        (λ p g. rw (k.cell 1 (omega arith) (omega arith)) (k.cell (run_at mem t p) (omega arith) (row_below t p (omega arith) g)))

    delays_same : (p : ℕ) → p < nth mem 1
        → map (λ q. nth e (delay_at e p q)) (below (nth e 1)) ≡ map (λ q. nth mem (delay_at mem p q)) (below (nth mem 1))
    delays_same p h =
        below_same (λ q. nth e (delay_at e p q)) (λ q. nth mem (delay_at mem p q)) (k.cell 1 (omega arith) (omega arith))
        (λ q g. rw (k.cell 0 (omega arith) (omega arith), k.cell 1 (omega arith) (omega arith)) (k.cell (delay_at mem p q) (omega arith) (row_below (nth mem 0 + p) q (omega arith) g)))

    pub job_same : job_in e ≡ job_in mem
    unfolding job_in
    job_same =
        let run : List ℕ → ℕ → List ℕ = λ x t. map (λ p. nth x (run_at x t p)) (below (nth x 1)) in
        let late : List ℕ → ℕ → List ℕ = λ x p. map (λ q. nth x (delay_at x p q)) (below (nth x 1)) in
        let edge : List ℕ → ℕ → Edge = λ x i. edge_in (nth x (edge_at x i)) in
        let a : map (run e) (below (nth e 0)) ≡ map (run mem) (below (nth mem 0)) = below_same (run e) (run mem) (k.cell 0 (omega arith) (omega arith)) runs_same in
        let b : map (late e) (below (nth e 1)) ≡ map (late mem) (below (nth mem 1)) = below_same (late e) (late mem) (k.cell 1 (omega arith) (omega arith)) delays_same in
        let c : map (edge e) (below (nth e 2)) ≡ map (edge mem) (below (nth mem 2)) = below_same (edge e) (edge mem) (k.cell 2 (omega arith) (omega arith)) edge_same in
        made (k.cell 0 (omega arith) (omega arith)) (k.cell 1 (omega arith) (omega arith)) (k.cell 3 (omega arith) (omega arith)) a b c
      where
        made : {v v' m m' x x' : ℕ} {rs rs' ds ds' : List (List ℕ)} {es es' : List Edge} → v ≡ v' → m ≡ m' → x ≡ x' → rs ≡ rs' → ds ≡ ds' → es ≡ es'
            → ◌≡◌ {A =
            Job} (record { tasks = v; processors = m; losses = x; runs = rs; delays = ds; edges = es }) (record { tasks = v'; processors = m'; losses = x'; runs = rs'; delays = ds'; edges = es' })
        made p q r s t u = rw (p, q, r, s, t, u)

-- A job that is as it was stands in a memory of the same size.
pub held_same : {l : Limits} {capacity : ℕ} {d e : List ℕ} → JobHeld l capacity d → length e ≡ length d → Same 0 (job_size capacity) d e → JobHeld l capacity e
held_same {capacity} {d} {e} h z k =
    let w = sizes h in
    let v : nth e 0 ≡ nth d 0 = k.cell 0 (omega arith) (omega arith) in
    let m : nth e 1 ≡ nth d 1 = k.cell 1 (omega arith) (omega arith) in
    let n : nth e 2 ≡ nth d 2 = k.cell 2 (omega arith) (omega arith) in
    record { size = z ∙ h.size; fits = rw (v, m, n) h.fits; facts = rw (job_same w k) h.facts; suited = h.suited; tabled = h.tabled }

module _ {l : Limits} {capacity low high : ℕ} {d e : List ℕ} (h : JobHeld l capacity d) (k : KeptOutside low high d e) (a : job_size capacity ≤ low) where
  -- A change behind the job leaves the job as it was.
  pub job_kept : job_in e ≡ job_in d
  job_kept = job_same (sizes h) (same_before 0 (job_size capacity) k a)

  pub held_kept : JobHeld l capacity e
  held_kept = held_same h k.size (same_before 0 (job_size capacity) k a)

-- And the job's links are still its links.
pub links_kept : {l : Limits} {capacity low high : ℕ} {d e links : List ℕ} → JobHeld l capacity d → KeptOutside low high d e → job_size capacity ≤ low → LinksHeld d links → LinksHeld e links
links_kept {capacity} {d} {e} {links} h k a l =
    let w = sizes h in
    let same = same_before 0 (job_size capacity) k a in
    let v : nth e 0 ≡ nth d 0 = k.before 0 (omega arith) in
    let n : nth e 2 ≡ nth d 2 = k.before 2 (omega arith) in
    record {
      size = rw (v, n) l.size;
      outs = λ t g.
          let b : t < nth d 0 = omega arith in
          let r = l.outs t b in
          let most = l.within t b in
          rw (v, k.before 1 (omega arith), job_kept h k a)
          (record {
            rises = r.rises;
            within = omega (arith, r.within, k.size);
            edges = run_same _ _ _ d e (λ i f. same.cell _ (omega arith) (omega (arith, w.cells_room))) ∙ r.edges;
          });
      within = λ t g. rw n (l.within t (omega arith));
      ins = λ t g. rw (v, job_kept h k a) (l.ins t (omega arith));
      order = rw (v, job_kept h k a) l.order;
    }

-- A task's cells among the links, and the run of the edges that enter it, as they are read.
module _ {mem links : List ℕ} (l : LinksHeld mem links) {t : ℕ} (h : t < nth mem 0) where
  pub link_cell : (i : ℕ) → link_in (nth mem 0) t i links ≡ nth links i
  link_cell i = link_in_lem (nth mem 0) t i links (nth mem 2) l.size h

  pub enters_run : {a b : ℕ}
      → (a ≡ link_in (nth mem 0) t (in_start_at (nth mem 0) t) links) × (b ≡ link_in (nth mem 0) t (in_start_at (nth mem 0) (t + 1)) links)
      → Run a b links (incoming (job_in mem) t)
  enters_run s = rw (s.0 ∙ link_cell _, s.1 ∙ link_cell _) (l.ins t h)
