-- The job that a memory holds is the job that was read into it.
use Rattle.lists.proofs.Prelude.{◌≡◌, refl, ap, ◌∙◌, sym, inl, inr, List, [], ◌∷◌, ◌++◌, map, append_assoc, append-nil, ℕ, zero, suc, ◌+◌, ◌*◌, ◌-◌, ◌<◌, ◌≤◌, arith, add-mul, suc-mul, zero-mul, length, get_or, take, length-append, length-take, length-map, List·getD-append, List·getD-map, get_or-take, ext_get_or, nth, In, below, Limits, good, Edge, Job, JobHead, job_head_rule, outgoing, incoming, JobFacts}
use lib.Seq.{get_or-append-add}
use Rattle.definitions.proofs.Lists.{length_count}
use Rattle.std.specs.Prelude.{Ok}
use Rattle.orders.specs.Edges.{edge_cell, edge_in}
use Rattle.orders.specs.Links.{Linked}
use Rattle.orders.proofs.RunLaws.{run_same}
use Rattle.jobs.specs.Memory.{numbered, job_cells}
use Rattle.jobs.specs.Answers.{Loaded}
use Rattle.jobs.specs.Held.{job_in, LinksHeld}
use Rattle.heads.specs.Layout.{numbers_at, edges_at, cells_for}
use Rattle.heads.specs.Reading.{from_runs, closed}
use Rattle.text.specs.Suited.{Suited}
use Rattle.edges.proofs.EdgeLaws.{edge_of_cell}
use Rattle.rows.proofs.RowLaws.{row_ends}
use Rattle.lists.proofs.Counting.{get_or_below}
use Rattle.jobs.proofs.AnswerLaws.{loaded_next}
use Rattle.jobs.proofs.JobShape.{Wide, JobShape, closed_shape, closed_facts, numbered_count}

-- Lists by their members ------------------------------------------------------------------------------------------

get_or_in : {A : Type 0} (xs : List A) (i : ℕ) (d : A) → i < length xs → In (get_or xs i d) xs
get_or_in [] i d h = absurd (omega arith)
get_or_in (x ∷ xs) zero d h = inl refl
get_or_in (x ∷ xs) (suc i) d h = inr (get_or_in xs i d (omega arith))

-- The values of f at the numbers below n are the members of xs.
pub members : {A : Type 0} (f : ℕ → A) (d : A) (n : ℕ) (xs : List A) → length xs ≡ n → ((i : ℕ) → i < n → f i ≡ get_or xs i d) → map f (below n) ≡ xs
members f d n xs l h =
    let m : length (map f (below n)) ≡ n = length-map (below n) f ∙ length_count 0 n in
    ext_get_or d (map f (below n)) xs (m ∙ sym l) (λ i g.
    let k : i < n = omega arith in
    get_or_below f n i d k ∙ h i k)

table : (g : ℕ → ℕ → ℕ) (v m : ℕ) (rows : List (List ℕ)) → length rows ≡ v → Wide m rows
    → ((t p : ℕ) → t < v → p < m → g t p ≡ nth (get_or rows t []) p) → map (λ t. map (g t) (below m)) (below v) ≡ rows
table g v m rows l w h =
    members (λ t. map (g t) (below m)) [] v rows l
    (λ t k. members (g t) 0 m (get_or rows t []) (w (get_or rows t []) (get_or_in rows t [] (omega arith))) (λ p q. h t p k q))

-- Cells by their place --------------------------------------------------------------------------------------------

-- Number p of row t, where the rows stand with their numbers in front.
numbered_at : (m k : ℕ) (rows : List (List ℕ)) → Wide m rows → (t p : ℕ) → t < length rows → p < m
    → nth (numbered k rows) (t * (1 + m) + (1 + p)) ≡ nth (get_or rows t []) p
unfolding numbered
numbered_at m k [] w t p h g = absurd (omega arith)
numbered_at m k (r ∷ rows) w zero p h g =
    let l : length r ≡ m = w r (inl refl) in
    let e : 0 * (1 + m) + (1 + p) ≡ suc p = omega (arith, zero-mul (1 + m)) in
    rw e (List·getD-append r (numbered (suc k) rows) 0 p (omega arith))
numbered_at m k (r ∷ rows) w (suc t) p h g =
    let l : length r ≡ m = w r (inl refl) in
    let e : suc t * (1 + m) + (1 + p) ≡ length (k ∷ r) + (t * (1 + m) + (1 + p)) = omega (arith, suc-mul t (1 + m)) in
    rw e (get_or-append-add (k ∷ r) (numbered (suc k) rows) (t * (1 + m) + (1 + p)) 0 ∙ numbered_at m (suc k) rows (λ q i. w q (inr i)) t p (omega arith) g)

-- The memory begins with a, b and c; a place in b.
place_at : (mem a b c : List ℕ) (n : ℕ) → take n mem ≡ a ++ (b ++ c) → n ≡ length (a ++ (b ++ c)) → (i : ℕ) → i < length b → nth mem (length a + i) ≡ nth b i
place_at mem a b c n e l i h =
    let g : length a + i < n = omega (arith, length-append a (b ++ c), length-append b c) in
    sym (get_or-take n mem (length a + i) 0 g) ∙ ap (λ (x : List ℕ). nth x (length a + i)) e ∙ get_or-append-add a (b ++ c) i 0 ∙ List·getD-append b c 0 i h

-- Edges from their cells.
edges_back : (l : Limits) → Suited l → (v : ℕ) → v ≤ l.tasks → (es : List Edge) → ((e : Edge) → In e es → (e.from < v) × (e.to < v)) → map edge_in (map edge_cell es) ≡ es
edges_back l u v h [] f = refl
edges_back l u v h (e ∷ es) f = let (a, b) = f e (inl refl) in rw (edge_of_cell l u v e h a b, edges_back l u v h es (λ d i. f d (inr i)))

-- The memory begins with the cells of the job j.
module _ (j : Job) (mem : List ℕ) (w : JobShape j) (e : take (length (job_cells j)) mem ≡ job_cells j) where
  abbrev v : ℕ
  v = j.tasks

  abbrev m : ℕ
  m = j.processors

  -- The job's head, and its cells: the head's, those of the C, the D and the E lines.
  abbrev heading : JobHead
  heading = record { tasks = v; processors = m; edges = length j.edges; losses = j.losses }

  abbrev head : List ℕ
  head = v ∷ m ∷ length j.edges ∷ j.losses ∷ []

  abbrev runs : List ℕ
  runs = numbered 0 j.runs

  abbrev delays : List ℕ
  delays = numbered 0 j.delays

  abbrev edges : List ℕ
  edges = map edge_cell j.edges

  from_head_lem : job_cells j ≡ head ++ (runs ++ (delays ++ edges))
  unfolding job_cells
  from_head_lem = simp append_assoc

  from_delays_lem : job_cells j ≡ (head ++ runs) ++ (delays ++ edges)
  unfolding job_cells
  from_delays_lem = simp append_assoc

  from_edges_lem : job_cells j ≡ (head ++ runs ++ delays) ++ (edges ++ [])
  unfolding job_cells
  from_edges_lem = ap (λ (x : List ℕ). head ++ runs ++ delays ++ x) (sym (append-nil edges))

  runs_size : length runs ≡ v * (1 + m)
  runs_size = numbered_count m 0 j.runs w.runs_wide ∙ ap (λ (n : ℕ). n * (1 + m)) w.runs_count

  delays_size : length delays ≡ m * (1 + m)
  delays_size = numbered_count m 0 j.delays w.delays_wide ∙ ap (λ (n : ℕ). n * (1 + m)) w.delays_count

  head_at : (i : ℕ) → i < 4 → nth mem i ≡ nth head i
  head_at i h = let z : i ≡ 0 + i = omega arith in
      ap (nth mem) z ∙ place_at mem [] head (runs ++ (delays ++ edges)) (length (job_cells j)) (e ∙ from_head_lem) (ap length from_head_lem) i h

  run_at : (t p : ℕ) → t < v → p < m → nth mem (numbers_at m t + (p + 1)) ≡ nth (get_or j.runs t []) p
  run_at t p h g =
      let i : numbers_at m t + (p + 1) ≡ length head + (t * (1 + m) + (1 + p)) = omega arith in
      let s : t * (1 + m) + (1 + p) < length runs = omega (arith, row_ends t v (1 + m) h, runs_size) in
      rw i (place_at mem head runs (delays ++ edges) (length (job_cells j)) (e ∙ from_head_lem) (ap length from_head_lem) (t * (1 + m) + (1 + p)) s
      ∙ numbered_at m 0 j.runs w.runs_wide t p (rw w.runs_count h) g)

  delay_at_lem : (p q : ℕ) → p < m → q < m → nth mem (numbers_at m (v + p) + (q + 1)) ≡ nth (get_or j.delays p []) q
  delay_at_lem p q h g =
      let i : numbers_at m (v + p) + (q + 1) ≡ length (head ++ runs) + (p * (1 + m) + (1 + q)) = omega (arith, add-mul v p (1 + m), runs_size) in
      let s : p * (1 + m) + (1 + q) < length delays = omega (arith, row_ends p m (1 + m) h, delays_size) in
      rw i (place_at mem (head ++ runs) delays edges (length (job_cells j)) (e ∙ from_delays_lem) (ap length from_delays_lem) (p * (1 + m) + (1 + q)) s
      ∙ numbered_at m 0 j.delays w.delays_wide p q (rw w.delays_count h) g)

  edge_at : (i : ℕ) → i < length j.edges → nth mem (edges_at heading + i) ≡ nth edges i
  edge_at i h =
      let n : edges_at heading + i ≡ length (head ++ runs ++ delays) + i = omega (arith, add-mul v m (1 + m), runs_size, delays_size, length-append runs delays) in
      rw n (place_at mem (head ++ runs ++ delays) edges [] (length (job_cells j)) (e ∙ from_edges_lem) (ap length from_edges_lem) i (rw (length-map j.edges edge_cell) h))

  pub job_in_lem : {l : Limits} → Suited l → JobFacts l j → job_in mem ≡ j
  unfolding job_in
  job_in_lem u f =
      let none : Edge = record { from = 0; to = 0; volume = 0 } in
      let edge : (i : ℕ) → i < length j.edges → edge_in (nth mem (edges_at heading + i)) ≡ get_or j.edges i none =
      λ i h.
      let k = get_or_in j.edges i none h in
      ap edge_in (edge_at i h ∙ List·getD-map edge_cell j.edges i none)
      ∙ edge_of_cell _ u _ (get_or j.edges i none) f.tasks_most (f.from_task _ k) (f.to_task _ k) in
      rw (
        head_at 0 (omega arith),
        head_at 1 (omega arith),
        head_at 2 (omega arith),
        head_at 3 (omega arith),
        table (λ t p. nth mem (numbers_at m t + (p + 1))) v m j.runs w.runs_count w.runs_wide run_at,
        table (λ p q. nth mem (numbers_at m (v + p) + (q + 1))) m m j.delays w.delays_count w.delays_wide delay_at_lem,
        members (λ i. edge_in (nth mem (edges_at heading + i))) none (length j.edges) j.edges refl edge,
      )

  -- The links of its edges are links of the job in the memory.
  pub links_in : {l : Limits} → Suited l → JobFacts l j → {links : List ℕ} → Linked v edges links → LinksHeld mem links
  unfolding outgoing incoming
  links_in u f {links} r =
      let q : map edge_in edges ≡ (job_in mem).edges = edges_back _ u v f.tasks_most j.edges (λ e i. (f.from_task e i, f.to_task e i)) ∙ ap (λ (i : Job). i.edges) (sym (job_in_lem u f)) in
      let n : length edges ≡ length j.edges = length-map j.edges edge_cell in
      let full : cells_for heading ≤ length mem =
      omega (
        arith,
        length-take (length (job_cells j)) mem,
        ap length e,
        ap length from_edges_lem,
        length-append (head ++ runs ++ delays) (edges ++ []),
        length-append
            (head ++ runs) delays,
        length-append head runs,
        length-append edges [],
        n,
        add-mul v m (1 + m),
        runs_size,
        delays_size,
      ) in
      let v0 : nth mem 0 ≡ v = head_at 0 (omega arith) in
      let m0 : nth mem 1 ≡ m = head_at 1 (omega arith) in
      let n0 : nth mem 2 ≡ length j.edges = head_at 2 (omega arith) in
      record {
        size = rw (v0, n0) (omega (arith, r.runs.size, n));
        outs = λ t h.
            let o = r.runs.outs t (omega (arith, h, v0)) in
            let a = nth links t in
            let b = nth links (t + 1) in
            let g = edges_at heading in
            let s : g + b - (g + a) ≡ b - a = omega (arith, o.rises) in
            rw (v0, m0)
            (record {
              rises = omega (arith, o.rises);
              within = omega (arith, o.within, n, full);
              edges = rw (s, ← q) (run_same a (g + a) (b - a) edges mem (λ i l. edge_cell_lem a i (omega (arith, l, o.rises, o.within, n))) ∙ o.edges);
            });
        within = λ t h. rw n0 (omega (arith, (r.runs.outs t (omega (arith, h, v0))).within, n));
        ins = λ t h. rw (v0, ← q) (r.runs.ins t (omega (arith, h, v0)));
        order = rw (v0, ← q) r.order;
      }
    where
      edge_cell_lem : (a i : ℕ) → a + i < length j.edges → nth mem (edges_at heading + a + i) ≡ nth edges (a + i)
      edge_cell_lem a i l = let z : edges_at heading + a + i ≡ edges_at heading + (a + i) = omega arith in rw z (edge_at (a + i) l)

-- After a good answer of the reader the memory holds the job of the head and the text, and the links are its links.
pub loaded_in : {l : Limits} → Suited l → (h : JobHead) (s mem links : List ℕ) (n : ℕ) → job_head_rule l h ≡ 0 → Loaded (closed (from_runs l h s)) mem links (Ok n)
    → (closed (from_runs l h s) ≡ good (job_in mem)) × JobFacts l (job_in mem) × LinksHeld mem links
loaded_in {l} u h s mem links n z a =
    let (j, g, k, c, r) = loaded_next (closed (from_runs l h s)) mem links n a in
    let f = closed_facts l h s j g z in
    let w = (closed_shape l h s j g).0 in
    let e : job_in mem ≡ j = job_in_lem j mem w (rw (← k) c) u f in
    let o = links_in j mem w (rw (← k) c) u f r in
    rw e (g, f, o)
