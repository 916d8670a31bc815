-- The lines of a plan in a memory, after a change elsewhere.
use Rattle.lists.proofs.Prelude.{◌≡◌, refl, ap, sym, ◌∙◌, ◌⊎◌, inl, inr, ⊎_elim, List, map, map-map, count_from, below, add-one, Replica, Line, Bool}
use Rattle.lists.proofs.Prelude.{true, false, ℕ, zero, suc, ◌+◌, ◌*◌, ◌%◌, ◌<◌, ◌≤◌, arith, length, Limits, length-map, set, length-set}
use Rattle.lists.proofs.Prelude.{get_or-set_same, get_or-set_other, nth, In}
use Rattle.definitions.proofs.Lists.{in_map, map_in, in_below, below_in, nth_below, length_count}
use Rattle.heads.specs.Layout.{job_size, level_at, line_at, blocked_at, replicas_most, row_at, processor_at, early_at, late_at, time_at}
use Rattle.plans.specs.Lines.{row_end, row_outcomes, placed_in, replica_in, row_replicas, lines_in, RowHeld, LinesHeld}
use Rattle.jobs.specs.Held.{JobHeld}
use Rattle.lists.specs.Kept.{KeptOutside}
use Rattle.lists.proofs.Kept.{Same, same_part, same_before, same_behind}
use Rattle.lists.proofs.Upward.{map_more}
use Rattle.lists.proofs.Counting.{below_same, equal_or_not, last_or_before}
use Rattle.jobs.proofs.Held.{sizes, Sizes, held_same}

-- In a line no processor and no late time stands where an early one does.
pub early_apart : (a c n : ℕ) → (processor_at a n ≡ early_at a c → ⊥) × (late_at a n ≡ early_at a c → ⊥)
early_apart a c n =
    let early : (2 + 3 * c) % 3 ≡ 2 = omega arith in
    let on : (1 + 3 * n) % 3 ≡ 1 = omega arith in
    let late : (3 + 3 * n) % 3 ≡ 0 = omega arith in (
      λ q. let e : 1 + 3 * n ≡ 2 + 3 * c = omega arith in omega (arith, ap (λ (x : ℕ). x % 3) e, early, on),
      λ q. let e : 3 + 3 * n ≡ 2 + 3 * c = omega arith in omega (arith, ap (λ (x : ℕ). x % 3) e, early, late),
    )

-- Replicas and lines by their numbers -------------------------------------------------------------------------

module _ (mem : List ℕ) where
  pub replicas_below : (a c : ℕ) → row_replicas a c mem ≡ map (λ i. replica_in a i mem) (below c)
  unfolding row_replicas count_from
  replicas_below a zero = refl
  replicas_below a (suc c) = rw (replicas_below a c) (sym (rw (add-one c) at (map_more (λ i. replica_in a i mem) c)))

  -- The line at a, with w replicas.
  abbrev pub line_with : ℕ → ℕ → Line
  line_with w a = record { task = nth mem a; replicas = row_replicas a w mem }

  pub lines_below : (capacity w k : ℕ) → lines_in capacity w k mem ≡ map (λ i. line_with w (row_at capacity i)) (below k)
  unfolding lines_in count_from
  lines_below capacity w zero = refl
  lines_below capacity w (suc k) = rw (lines_below capacity w k) (sym (rw (add-one k) at (map_more (λ i. line_with w (row_at capacity i)) k)))

  -- Each replica has its place in the line.
  pub replica_of : (a w : ℕ) (r : Replica) → In r (row_replicas a w mem) → (c : ℕ) × (c < w) × (replica_in a c mem ≡ r)
  replica_of a w r i = let (c, l, e) = in_map (λ i. replica_in a i mem) r (below w) (rw (replicas_below a w) at i) in (c, in_below w c l, e)

-- The processors of a line.
module _ (mem : List ℕ) (a w : ℕ) where
  pub processors_below : map (λ r. r.processor) (row_replicas a w mem) ≡ map (λ i. nth mem (processor_at a i)) (below w)
  processors_below = rw (replicas_below mem a w) (map-map (λ r. r.processor) (λ i. replica_in a i mem) (below w))

  pub processors_length : length (map (λ r. r.processor) (row_replicas a w mem)) ≡ w
  processors_length = rw processors_below (length-map (below w) (λ i. nth mem (processor_at a i)) ∙ length_count 0 w)

  pub processor_at_lem : (c : ℕ) → c < w → nth (map (λ r. r.processor) (row_replicas a w mem)) c ≡ nth mem (processor_at a c)
  processor_at_lem c l = rw processors_below (nth_below (λ i. nth mem (processor_at a i)) w c l)

pub in_replicas : (a w c : ℕ) (mem : List ℕ) → c < w → In (replica_in a c mem) (row_replicas a w mem)
in_replicas a w c mem l = rw (replicas_below mem a w) (map_in (λ i. replica_in a i mem) c (below w) (below_in w c l))

-- Lines -------------------------------------------------------------------------------------------------------

module _ (d e : List ℕ) where
  pub outcomes_same : (late : Bool) (a c : ℕ) → Same a (processor_at a c) d e → row_outcomes late a c e ≡ row_outcomes late a c d
  unfolding row_outcomes
  outcomes_same late a zero k = refl
  outcomes_same late a (suc c) k =
      rw (k.cell a (omega arith) (omega arith), k.cell (processor_at a c) (omega arith) (omega arith), time late, outcomes_same late a c (same_part a (processor_at a c) k (omega arith) (omega arith)))
    where
      time : (late : Bool) → nth e (time_at late a c) ≡ nth d (time_at late a c)
      time true = k.cell (late_at a c) (omega arith) (omega arith)
      time false = k.cell (early_at a c) (omega arith) (omega arith)

  pub placed_same : (capacity : ℕ) (late : Bool) (w k : ℕ) → w ≤ replicas_most → Same (row_at capacity 0) (row_at capacity k) d e → placed_in capacity late w k e ≡ placed_in capacity late w k d
  unfolding placed_in
  placed_same capacity late w zero h s = refl
  placed_same capacity late w (suc k) h s =
      rw (
        outcomes_same late (row_at capacity k) w (same_part (row_at capacity k) (processor_at (row_at capacity k) w) s (omega arith) (omega arith)),
        placed_same capacity late w k h
            (same_part (row_at capacity 0) (row_at capacity k) s (omega arith) (omega arith)),
      )

  pub replicas_same : (a c : ℕ) → Same a (processor_at a c) d e → row_replicas a c e ≡ row_replicas a c d
  replicas_same a c k =
      rw (replicas_below e a c, replicas_below d a c)
      (below_same (λ i. replica_in a i e) (λ i. replica_in a i d) refl
      (λ i l. rw (k.cell (processor_at a i) (omega arith) (omega arith), k.cell (early_at a i) (omega arith) (omega arith), k.cell (late_at a i) (omega arith) (omega arith))))

  pub lines_same : (capacity : ℕ) (w k : ℕ) → w ≤ replicas_most → Same (row_at capacity 0) (row_at capacity k) d e → lines_in capacity w k e ≡ lines_in capacity w k d
  lines_same capacity w k h s =
      rw (lines_below e capacity w k, lines_below d capacity w k)
      (below_same (λ i. line_with e w (row_at capacity i)) (λ i. line_with d w (row_at capacity i)) refl
      (λ i l.
      rw (s.cell (row_at capacity i) (omega arith) (omega arith), replicas_same (row_at capacity i) w (same_part (row_at capacity i) (processor_at (row_at capacity i) w) s (omega arith) (omega arith)))))

-- A plan's lines ------------------------------------------------------------------------------------------------

pub row_held_same : {l : Limits} {capacity : ℕ} {d e : List ℕ} (a : ℕ) → Sizes l capacity d → Same 0 4 d e → Same a (row_end a) d e → RowHeld l a d → RowHeld l a e
row_held_same {d} {e} a s j x r =
    let m : nth e 1 ≡ nth d 1 = j.cell 1 (omega arith) (omega arith) in
    let n : nth e 3 ≡ nth d 3 = j.cell 3 (omega arith) (omega arith) in
    record {
      processor_of = λ c h. rw (m, x.cell (processor_at a c) (omega arith) (omega arith)) (r.processor_of c (rw n at h));
      early_of = λ c h. rw (x.cell (early_at a c) (omega arith) (omega arith)) (r.early_of c (rw n at h));
      late_of = λ c h. rw (x.cell (late_at a c) (omega arith) (omega arith)) (r.late_of c (rw n at h));
    }

-- The job, the table of lines and the first k lines are as they were.
pub standing_same : {l : Limits} {capacity k : ℕ} {d e : List ℕ} → length e ≡ length d → Same 0 (level_at capacity) d e → Same (line_at capacity) (blocked_at capacity) d e
    → Same (row_at capacity 0) (row_at capacity k) d e → LinesHeld l capacity k d → LinesHeld l capacity k e
standing_same {capacity} {k} {d} {e} z j o r s =
    let w = sizes s.job in
    let a : Same 0 (job_size capacity) d e = same_part 0 (job_size capacity) j (omega arith) (omega arith) in
    let v : nth e 0 ≡ nth d 0 = j.cell 0 (omega arith) (omega arith) in
    let task : (i : ℕ) → i < k → nth e (row_at capacity i) ≡ nth d (row_at capacity i) = λ i h. r.cell (row_at capacity i) (omega arith) (omega arith) in
    let line : (t : ℕ) → t < nth d 0 → nth e (line_at capacity + t) ≡ nth d (line_at capacity + t) = λ t h. o.cell (line_at capacity + t) (omega arith) (omega arith) in
    record {
      job = held_same s.job z a;
      count = rw v s.count;
      task_of = λ i h. rw (task i h, v) (s.task_of i h);
      line_of = λ i h. rw (task i h, line (nth d (row_at capacity i)) (s.task_of i h)) (s.line_of i h);
      placed = λ t h.
          let g : t < nth d 0 = rw v at h in
          rw (line t g) (⊎_elim (λ p. inl p) (λ p. inr (p.0, p.1, p.2, task p.0 p.1 ∙ p.3)) (s.placed t g));
      row = λ i h. row_held_same (row_at capacity i) w (same_part 0 4 j (omega arith) (omega arith))
          (same_part (row_at capacity i) (row_end (row_at capacity i)) r (omega arith) (omega arith)) (s.row i h);
    }

-- A change among what serves the choice of a task, or behind the k lines.
module _ {l : Limits} {capacity k low high : ℕ} {d e : List ℕ} (c : KeptOutside low high d e) (s : LinesHeld l capacity k d) where
  pub standing_choice : blocked_at capacity ≤ low → high ≤ row_at capacity 0 → LinesHeld l capacity k e
  standing_choice a b = standing_same c.size (same_before 0 (level_at capacity) c (omega arith)) (same_before (line_at capacity) (blocked_at capacity) c a)
      (same_behind (row_at capacity 0) (row_at capacity k) c b) s

  pub standing_behind : row_at capacity k ≤ low → LinesHeld l capacity k e
  standing_behind a =
      standing_same c.size (same_before 0 (level_at capacity) c (omega arith)) (same_before (line_at capacity) (blocked_at capacity) c (omega arith))
      (same_before (row_at capacity 0) (row_at capacity k) c a) s

-- No line yet.
pub standing_none : {l : Limits} {capacity : ℕ} {d : List ℕ} → JobHeld l capacity d → ((t : ℕ) → t < nth d 0 → nth d (line_at capacity + t) ≡ 0) → LinesHeld l capacity 0 d
standing_none h z =
    record {
      job = h;
      count = omega arith;
      task_of = λ i g. absurd (omega arith);
      line_of = λ i g. absurd (omega arith);
      placed = λ t g. inl (z t g);
      row = λ i g. absurd (omega arith);
    }

-- Line k besides: it is of task t, which had none.
module _ {l : Limits} {capacity k t : ℕ} {d e : List ℕ} (s : LinesHeld l capacity k d) (b : k < nth d 0) (below : t < nth d 0) (none : nth d (line_at capacity + t) ≡ 0) where
  pub standing_next : length e ≡ length d → Same 0 (level_at capacity) d e → Same (row_at capacity 0) (row_at capacity k) d e
      → ((u : ℕ) → u < nth d 0 → (u ≡ t → ⊥) → nth e (line_at capacity + u) ≡ nth d (line_at capacity + u)) → nth e (line_at capacity + t) ≡ suc k → nth e (row_at capacity k) ≡ t
      → RowHeld l (row_at capacity k) e → LinesHeld l capacity (suc k) e
  standing_next z j r line new here row =
      let w = sizes s.job in
      let v : nth e 0 ≡ nth d 0 = j.cell 0 (omega arith) (omega arith) in
      let task : (i : ℕ) → i < k → nth e (row_at capacity i) ≡ nth d (row_at capacity i) = λ i h. r.cell (row_at capacity i) (omega arith) (omega arith) in
      let other : (i : ℕ) → i < k → nth d (row_at capacity i) ≡ t → ⊥ = λ i h q. let x : nth d (line_at capacity + t) ≡ suc i = rw q at (s.line_of i h) in omega arith in
      record {
        job = held_same s.job z (same_part 0 (job_size capacity) j (omega arith) (omega arith));
        count = rw v (omega arith);
        task_of = λ i h. rw v (⊎_elim (λ (q : i ≡ k). rw (q, here) below) (λ q. rw (task i q) (s.task_of i q)) (last_or_before k i h));
        line_of = λ i h.
            ⊎_elim (λ (q : i ≡ k). rw (q, here) new) (λ q. rw (task i q, line (nth d (row_at capacity i)) (s.task_of i q) (other i q)) (s.line_of i q)) (last_or_before k i h);
        placed = λ u h.
            let g : u < nth d 0 = rw v at h in
            ⊎_elim
            (λ (q : u ≡ t). inr (k, omega arith, rw q new, here ∙ sym q))
            (λ n. rw (line u g n) (⊎_elim inl (λ p. inr (p.0, omega (arith, p.1), p.2, task p.0 p.1 ∙ p.3)) (s.placed u g)))
            (equal_or_not u t);
        row = λ i h.
            ⊎_elim
            (λ (q : i ≡ k). rw q row)
            (λ q. row_held_same (row_at capacity i) w (same_part 0 4 j (omega arith) (omega arith))
            (same_part (row_at capacity i) (row_end (row_at capacity i)) r (omega arith) (omega arith)) (s.row i q))
            (last_or_before k i h);
      }

-- The line of row k gets its place in the table.
pub standing_more : {l : Limits} {capacity k t : ℕ} {d : List ℕ} → LinesHeld l capacity k d → k < nth d 0 → t < nth d 0 → nth d (line_at capacity + t) ≡ 0 → nth d (row_at capacity k) ≡ t
    → RowHeld l (row_at capacity k) d → LinesHeld l capacity (suc k) (set d (line_at capacity + t) (suc k))
standing_more {capacity} {k} {t} {d} s b v z here row =
    let w = sizes s.job in
    let other : (i : ℕ) → (i ≡ line_at capacity + t → ⊥) → nth (set d (line_at capacity + t) (suc k)) i ≡ nth d i = λ i n. get_or-set_other d (line_at capacity + t) i (suc k) 0 n in
    let same : (a b : ℕ) → (b ≤ line_at capacity) ⊎ (row_at capacity 0 ≤ a) → Same a b d (set d (line_at capacity + t) (suc k)) =
    λ a b h. record { cell = λ i p q. other i (λ f. ⊎_elim (λ g. omega arith) (λ g. omega (arith, w)) h) } in
    standing_next s b v z (length-set d (line_at capacity + t) (suc k)) (same 0 (level_at capacity) (inl (omega arith))) (same (row_at capacity 0) (row_at capacity k) (inr (omega arith)))
    (λ u g n. other (line_at capacity + u) (λ f. n (omega arith))) (get_or-set_same d (line_at capacity + t) (suc k) 0 (omega (arith, w))) (other (row_at capacity k) (λ f. omega (arith, w)) ∙ here)
    (row_held_same (row_at capacity k) w (same 0 4 (inl (omega arith))) (same (row_at capacity k) (row_end (row_at capacity k)) (inr (omega arith))) row)
