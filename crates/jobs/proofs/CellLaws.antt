-- The cells of a job in memory: rows with their number in front, edges, and the front of a memory whose rest was lent.
use Rattle.lists.proofs.Prelude.{◌≡◌, refl, ap, ◌∙◌, sym, List, [], ◌∷◌, ◌++◌, map, append-nil, ℕ, zero, suc, ◌+◌, ◌-◌, ◌*◌, ◌<◌, ◌≤◌, arith, zero-mul, suc-mul, add-mul, mul-le-mul, eqb-true, not-false, lt-ltb, length, take, drop, length-append, length-map, length-take, length-drop, take-add, take-take, length-take-le, get_or-take, bytes, nth, Limits, found, line, lines, run_rule, delay_rule, edge_line, edge_rule, job_head_of}
use borrow.Rule.Slice.PartMut.{mid_of, put_mid, take_put, mid_len, same_len_mid}
use Rattle.std.specs.List.{concat}
use Rattle.std.proofs.lemmas.List.Folds.{concat-append}
use Rattle.definitions.proofs.Lists.{passed}
use Rattle.definitions.proofs.Reading.{Ruled, lines_found, line_found}
use Rattle.orders.specs.Edges.{edge_cell, edge_in}
use Rattle.lists.proofs.Over.{drop_lent}
use Rattle.edges.specs.EdgeLines.{edges_into}
use Rattle.edges.proofs.EdgeLaws.{cell_of_edge, edges_enough}
use Rattle.rows.specs.Rows.{rows, rule_of, rows_into}
use Rattle.rows.proofs.RowLaws.{rows_fit}
use Rattle.rows.specs.declared.Kind.{Kind}
use Rattle.rows.specs.declared.Kind.TheVariants.{Runs, Delays}
use Rattle.jobs.specs.Memory.{numbered, job_cells}
use Rattle.heads.specs.Reading.{job_of}
use Rattle.heads.specs.Layout.{delays_at, edges_at, largest}
use Rattle.jobs.specs.Stages.{Headed, RunsIn, DelaysIn}

-- Edges ---------------------------------------------------------------------------------------------------------

pub cells_of : (cs : List ℕ) → map edge_cell (map edge_in cs) ≡ cs
cells_of [] = refl
cells_of (c ∷ cs) = rw (cell_of_edge c, cells_of cs)

-- Rows ----------------------------------------------------------------------------------------------------------

rows_concat : (k n : ℕ) (mem : List ℕ) → concat (rows k n mem) ≡ take (n * k) mem
unfolding rows
rows_concat k zero mem = rw zero-mul
rows_concat k (suc n) mem =
    concat-append (rows k n mem) (take k (drop (n * k) mem) ∷ [])
    ∙ rw (rows_concat k n mem, append-nil, suc-mul) (sym (take-add (n * k) k mem))

-- The first number of a row by its rule.
turn : (l : Limits) (kind : Kind) (seen : List (List ℕ)) (vs : List ℕ) → rule_of l kind seen vs ≡ 0 → nth vs 0 ≡ length seen
unfolding run_rule delay_rule
turn l Runs seen vs z = eqb-true _ _ (not-false _ (passed _ _ _ z).0)
turn l Delays seen vs z = eqb-true _ _ (not-false _ (passed _ _ _ z).0)

front : (n : ℕ) (vs : List ℕ) → 0 < length vs → nth vs 0 ≡ n → n ∷ drop 1 vs ≡ vs
front n [] h e = absurd (omega arith)
front n (v ∷ vs) h e = rw e

module _ (l : Limits) (kind : Kind) (opening : List ℕ) (m : ℕ) where
  -- Rows that were read after those in `seen`.
  ruled_numbered : (seen xs : List (List ℕ)) → Ruled (line l opening (1 + m)) (rule_of l kind) seen xs
      → numbered (length seen) (map (drop 1) xs) ≡ concat xs
  unfolding numbered
  ruled_numbered seen [] w = refl
  ruled_numbered seen (x ∷ xs) ((s, r, f), z, w) =
      let k : length x ≡ 1 + m = line_found l opening (1 + m) s x r f in
      let e : length seen ∷ drop 1 x ≡ x = front (length seen) x (omega arith) (turn l kind seen x z) in
      let n : suc (length seen) ≡ length (seen ++ x ∷ []) = omega (arith, length-append seen (x ∷ [])) in
      ap (λ (y : List ℕ). y ++ numbered (suc (length seen)) (map (drop 1) xs)) e
      ∙ ap (λ (i : ℕ). x ++ numbered i (map (drop 1) xs)) n
      ∙ ap (λ (y : List ℕ). x ++ y) (ruled_numbered (seen ++ x ∷ []) xs w)

  -- The cells of n rows that were read.
  rows_numbered : (n : ℕ) (mem s r : List ℕ) → lines (line l opening (1 + m)) (rule_of l kind) n [] s ≡ found (rows (1 + m) n mem) r
      → numbered 0 (map (drop 1) (rows (1 + m) n mem)) ≡ take (n * (1 + m)) mem
  rows_numbered n mem s r f =
      let (ys, q, _, w) = lines_found (line l opening (1 + m)) (rule_of l kind) n [] s (rows (1 + m) n mem) r f in
      ap (λ (xs : List (List ℕ)). numbered 0 (map (drop 1) xs)) q ∙ ruled_numbered [] ys w ∙ ap concat (sym q) ∙ rows_concat (1 + m) n mem

-- The rest of a memory was lent -----------------------------------------------------------------------------------

-- The memory d from a on was lent, `&mut d[a..]`, and holds ys now.
module _ (d ys : List ℕ) (a : ℕ) (h : a ≤ length d) where
  abbrev new : List ℕ
  new = put_mid a (length d - a) d ys

  lent_cells : (n : ℕ) → take (a + n) new ≡ take a d ++ take n ys
  lent_cells n = take-add a n new ∙ rw (take_put a (length d - a) d ys h, drop_lent a d ys h)

  lent_take : (n : ℕ) → n ≤ a → take n new ≡ take n d
  lent_take n g = sym (take-take n a new g) ∙ ap (take n) (take_put a (length d - a) d ys h) ∙ take-take n a d g

  lent_nth : (i : ℕ) → i < a → nth new i ≡ nth d i
  lent_nth i g = sym (get_or-take a new i 0 g) ∙ ap (λ (l : List ℕ). nth l i) (take_put a (length d - a) d ys h) ∙ get_or-take a d i 0 g

  -- The head stays.
  module _ (g : 4 ≤ a) where
    pub lent_head : job_head_of new ≡ job_head_of d
    lent_head = rw (lent_nth 0 (omega arith), lent_nth 1 (omega arith), lent_nth 2 (omega arith), lent_nth 3 (omega arith))

    pub lent_headed : {l : Limits} {size : ℕ} → length ys ≡ length (mid_of a (length d - a) d) → Headed l d size → Headed l new size
    lent_headed k w =
        let v = lent_nth 0 (omega arith) in
        let m = lent_nth 1 (omega arith) in
        let n = lent_nth 2 (omega arith) in
        record {
          some_task = rw v w.some_task;
          tasks_most = rw v w.tasks_most;
          processors_most = rw m w.processors_most;
          edges_most = rw n w.edges_most;
          room = rw (v, m, n, same_len_mid a (length d - a) d ys k) w.room;
          links_room = rw (v, n) w.links_room;
        }

-- A job's cells, stage by stage -------------------------------------------------------------------------------------

module _ {l : Limits} {n : ℕ} {d : List ℕ} (w : Headed l d n) where
  pub runs_most : delays_at (job_head_of d) ≤ delays_at (largest l)
  runs_most = omega (arith, mul-le-mul {n₁ = nth d 0} {m₁ = 1 + nth d 1} {n₂ = l.tasks} {m₂ = 1 + l.processors} w.tasks_most (omega arith))

  delays_most : nth d 1 * (1 + nth d 1) ≤ l.processors * (1 + l.processors)
  delays_most = mul-le-mul {n₁ = nth d 1} {m₁ = 1 + nth d 1} {n₂ = l.processors} {m₂ = 1 + l.processors} w.processors_most (omega arith)

-- There is room for the C lines after the head, for the D lines after them, and for the E lines after those.
module _ {l : Limits} {size : ℕ} (d : List ℕ) (w : Headed l d size) (opening s : List ℕ) where
  pub runs_read : rows_into l (length (mid_of 4 (length d - 4) d)) Runs opening (1 + nth d 1) (nth d 0) s
      ≡ lines (line l opening (1 + nth d 1)) (rule_of l Runs) (nth d 0) [] s
  runs_read =
      let r = runs_most w in
      rows_fit _ _ Runs opening (1 + nth d 1) (nth d 0) s (lt-ltb 0 (1 + nth d 1) (omega arith)) (simp (length-take, length-drop) (omega arith))

  pub delays_read : {a : ℕ} → a ≡ delays_at (job_head_of d) → rows_into l (length (mid_of a (length d - a) d)) Delays opening (1 + nth d 1) (nth d 1) s
      ≡ lines (line l opening (1 + nth d 1)) (rule_of l Delays) (nth d 1) [] s
  delays_read p =
      let r = runs_most w in
      let t = delays_most w in
      rows_fit _ _ Delays opening (1 + nth d 1) (nth d 1) s (lt-ltb (nth d 1) (1 + nth d 1) (omega arith)) (simp (length-take, length-drop) (omega arith))

pub edges_read : {l : Limits} {n : ℕ} (d : List ℕ) → Headed l d n → (s : List ℕ) → {a : ℕ} → a ≡ edges_at (job_head_of d)
    → edges_into l (length (mid_of a (length d - a) d)) (nth d 0) (nth d 2) s ≡ lines (edge_line l) (edge_rule l (nth d 0)) (nth d 2) [] s
edges_read d w s p = edges_enough _ _ (nth d 0) (nth d 2) s w.tasks_most (simp (length-take, length-drop) (omega (arith, p, w.room)))

head_cells : (d : List ℕ) → 4 ≤ length d → take 4 d ≡ nth d 0 ∷ nth d 1 ∷ nth d 2 ∷ nth d 3 ∷ []
head_cells [] h = absurd (omega arith)
head_cells (a ∷ []) h = absurd (omega arith)
head_cells (a ∷ b ∷ []) h = absurd (omega arith)
head_cells (a ∷ b ∷ c ∷ []) h = absurd (omega arith)
head_cells (a ∷ b ∷ c ∷ e ∷ d) h = refl

-- The memory d, with a head: its cells from a stage on were lent and hold ys now.
module _ {l : Limits} {size : ℕ} (d ys : List ℕ) (w : Headed l d size) where
  -- The C lines were read.
  pub runs_in : (s r : List ℕ) → lines (line l (bytes "C,") (1 + nth d 1)) (rule_of l Runs) (nth d 0) [] s ≡ found (rows (1 + nth d 1) (nth d 0) ys) r
      → RunsIn (put_mid 4 (length d - 4) d ys) (map (drop 1) (rows (1 + nth d 1) (nth d 0) ys))
  runs_in s r f =
      let h : 4 ≤ length d = omega (arith, w.room) in
      let same = lent_nth d ys 4 h in
      let numbers = rows_numbered l Runs (bytes "C,") (nth d 1) (nth d 0) ys s r f in
      rw (same 0 (omega arith), same 1 (omega arith), lent_take d ys 4 h 4 (omega arith), numbers) (lent_cells d ys 4 h (nth d 0 * (1 + nth d 1)))

  -- The D lines were read.
  pub delays_in : {a : ℕ} → a ≡ delays_at (job_head_of d) → (runs : List (List ℕ)) → RunsIn d runs → (s r : List ℕ)
      → lines (line l (bytes "D,") (1 + nth d 1)) (rule_of l Delays) (nth d 1) [] s ≡ found (rows (1 + nth d 1) (nth d 1) ys) r
      → DelaysIn (put_mid a (length d - a) d ys) runs (map (drop 1) (rows (1 + nth d 1) (nth d 1) ys))
  delays_in {a} p runs q s r f =
      let h : a ≤ length d = omega (arith, p, runs_most w) in
      let u : edges_at (job_head_of d) ≡ a + nth d 1 * (1 + nth d 1) = omega (arith, p, add-mul (nth d 0) (nth d 1) (1 + nth d 1)) in
      let same = lent_nth d ys a h in
      let numbers = rows_numbered l Delays (bytes "D,") (nth d 1) (nth d 1) ys s r f in
      rw (same 0 (omega arith), same 1 (omega arith), lent_take d ys a h 4 (omega arith), numbers, u, ← q, ← p) (lent_cells d ys a h (nth d 1 * (1 + nth d 1)))

  -- The E lines were read.
  module _ {a : ℕ} (p : a ≡ edges_at (job_head_of d)) where
    edges_place : a ≤ length d
    edges_place = omega (arith, p, w.room)

    pub edges_part : take (a + nth d 2 - a) (drop a (put_mid a (length d - a) d ys)) ≡ take (nth d 2) ys
    edges_part = let m : a + nth d 2 - a ≡ nth d 2 = omega arith in rw (m, drop_lent a d ys edges_place)

    module _ (k : length ys ≡ length (mid_of a (length d - a) d)) where
      pub edges_fit_lem : a + nth d 2 ≤ length (put_mid a (length d - a) d ys)
      edges_fit_lem = omega (arith, p, w.room, same_len_mid a (length d - a) d ys k)

      pub edges_in : (runs delays : List (List ℕ)) → DelaysIn d runs delays
          → take (a + nth d 2) (put_mid a (length d - a) d ys) ≡ job_cells (job_of (job_head_of d) runs delays (map edge_in (take (nth d 2) ys)))
      unfolding job_cells
      edges_in runs delays q =
          let g : nth d 2 ≤ length ys = omega (arith, p, w.room, mid_len a (length d) d (omega arith)) in
          let n : length (map edge_in (take (nth d 2) ys)) ≡ nth d 2 = length-map (take (nth d 2) ys) edge_in ∙ length-take-le (nth d 2) ys g in
          lent_cells d ys a edges_place (nth d 2) ∙ rw (p, q, head_cells d (omega (arith, w.room)), n, cells_of)
