-- Bottom levels filled in a memory, from the last task of an order to the first.
use Rattle.lists.proofs.Prelude.{◌≡◌, refl, ap, sym, ◌∙◌, ⊎_elim, List, map, Bool, true, false, ℕ, ◌+◌, ◌*◌, ◌-◌, ◌<◌, ◌≤◌, arith, mul-le-mul, ltb, length, set, get_or-set_same, get_or-set_other, ltb-true, ltb-false, In, nth, greatest, Edge, outgoing, scaled_run, total_delay, bottom_levels, Limits}
use Rattle.definitions.specs.Planner.{scaled_message}
use Rattle.definitions.proofs.Lists.{map_same, full, nth_most}
use Rattle.definitions.proofs.Tasks.{in_outgoing}
use Rattle.definitions.proofs.Bounds.{bottom_most}
use Rattle.definitions.proofs.BottomLevels.{bottom_level}
use Rattle.heads.specs.Layout.{memory_size, level_at, line_at}
use Rattle.jobs.specs.Held.{job_in, JobHeld, LinksHeld}
use Rattle.jobs.specs.Tables.{line_ticks}
use Rattle.lists.specs.Kept.{KeptOutside}
use Rattle.rounds.specs.Schedule.{LevelsFilled}
use Rattle.orders.specs.Order.{listed, Arranged}
use Rattle.rounds.specs.Levels.{scaled_most, sent_most, level_most, sent}
use Rattle.lists.proofs.Counting.{equal_or_not}
use Rattle.lists.proofs.Kept.{kept_set}
use Rattle.jobs.proofs.Held.{tasks_in_lem, sizes, job_kept, held_kept, links_kept}
use Rattle.rounds.proofs.RowSums.{total_in, total_most, scaled_most_lem}
use Rattle.orders.proofs.OrderLaws.{listed_length, listed_place, place_listed, places_apart}

-- The tasks of an order ---------------------------------------------------------------------------------------

module _ {v : ℕ} {es : List Edge} {order : List ℕ} (a : Arranged v es order v) where
  order_below : (i : ℕ) → i < v → nth order i < v
  order_below i h = a.task_of (nth order i) (place_listed order v i h)

  -- Every task has a place.
  order_place : (t : ℕ) → t < v → (k : ℕ) × (k < v) × (nth order k ≡ t)
  order_place t h = listed_place order v t (full v (listed order v) a.once a.task_of (listed_length order v) t h)

  -- An edge leads to a task at a later place.
  order_later : (i : ℕ) → i < v → (e : Edge) → In e es → e.from ≡ nth order i → e.to < v → (k : ℕ) × (i < k) × (k < v) × (nth order k ≡ e.to)
  order_later i h e m f t =
      let (k, g, q) = order_place e.to t in
      let (p, l, r) = listed_place order k e.from (a.after k g e m (sym q)) in
      (k, by k p l (r ∙ f) (ltb i k) refl, g, q)
    where
      by : (k p : ℕ) → p < k → nth order p ≡ nth order i → (b : Bool) → ltb i k ≡ b → i < k
      by k p l s true b = ltb-true i k b
      by k p l s false b = absurd (places_apart order v a.once p i (omega (arith, ltb-false i k b)) h s)

-- Edges that leave a task --------------------------------------------------------------------------------------

-- An edge that leaves a task: its task, its message and its successor's level are within their limits.
pub record Message (lim : Limits) (capacity total : ℕ) (mem : List ℕ) (e : Edge) : Type 0 where
  pub place : level_at capacity + e.to < length mem
  pub little : e.volume * total ≤ sent_most lim
  pub level : nth mem (level_at capacity + e.to) ≤ level_most lim
  pub sent_same : e.volume * total + nth mem (level_at capacity + e.to) ≡ sent capacity mem e

module _ {lim : Limits} {capacity : ℕ} {mem : List ℕ} (held : JobHeld lim capacity mem) where
  -- What a message takes at most, scaled.
  message_most_lem : (e : Edge) → In e (job_in mem).edges → e.volume * total_delay (job_in mem) ≤ sent_most lim
  message_most_lem e i =
      let d = lim.processors * (lim.processors * lim.delay) in
      let t : total_delay (job_in mem) ≤ d = rw (total_in mem held) (total_most mem held (nth mem 1) (omega arith)) in
      omega (arith, mul-le-mul {n₁ = e.volume} {m₁ = total_delay (job_in mem)} {n₂ = lim.volume} {m₂ = d} (held.facts.volume_most e i) t)

  to_in : (e : Edge) → In e (job_in mem).edges → e.to < nth mem 0
  to_in e i = rw (← tasks_in_lem mem) (held.facts.to_task e i)

  pub leaves_to : (t : ℕ) (e : Edge) → In e (outgoing (job_in mem) t) → e.to < nth mem 0
  leaves_to t e i = to_in e (in_outgoing (job_in mem) t e i).0

  pub message : {total : ℕ} (t : ℕ) → total ≡ total_delay (job_in mem) → ((e : Edge) → In e (outgoing (job_in mem) t) → nth mem (level_at capacity + e.to) ≤ level_most lim)
      → (e : Edge) → In e (outgoing (job_in mem) t) → Message lim capacity total mem e
  message t q f e i =
      record {
        place = let s = sizes held in omega (arith, leaves_to t e i, s.size, s.tasks_most);
        little = rw q (message_most_lem e (in_outgoing (job_in mem) t e i).0);
        level = f e i;
        sent_same = rw q;
      }

-- Levels filled ------------------------------------------------------------------------------------------------

-- d became mem: the tasks of the order from place i on have their bottom level.
pub record Filling (capacity : ℕ) (order d mem : List ℕ) (i : ℕ) : Type 0 where
  pub kept : KeptOutside (level_at capacity) (line_at capacity) d mem
  pub filled : (k : ℕ) → i ≤ k → k < nth d 0 → nth mem (level_at capacity + nth order k) ≡ nth (bottom_levels (job_in d)) (nth order k)

-- What the code asks for the next task t of the order, and what it leaves.
pub record FillStep (lim : Limits) (capacity : ℕ) (order d mem links : List ℕ) (i t : ℕ) : Type 0 where
  pub held : JobHeld lim capacity mem
  pub linked : LinksHeld mem links
  pub place : level_at capacity + t < memory_size capacity
  pub below : t < nth mem 0
  pub run : scaled_run (job_in mem) t ≤ scaled_most lim
  pub levels : (e : Edge) → In e (outgoing (job_in mem) t) → nth mem (level_at capacity + e.to) ≤ level_most lim
  pub job : job_in mem ≡ job_in d
  pub more : (x y : ℕ) → x ≡ scaled_run (job_in mem) t → y ≡ greatest (map (sent capacity mem) (outgoing (job_in mem) t)) → Filling capacity order d (set mem (level_at capacity + t) (x + y)) (i - 1)

module _ {lim : Limits} {capacity : ℕ} {d : List ℕ} (held : JobHeld lim capacity d) where
  -- No bottom level passes its bound.
  pub level_most_lem : (t : ℕ) → nth (bottom_levels (job_in d)) t ≤ level_most lim
  unfolding job_in
  level_most_lem t =
      let w = sizes held in
      let m = nth d 1 in
      let p = lim.processors in
      let few : m * m ≤ p * p = mul-le-mul {n₁ = m} {m₁ = m} {n₂ = p} {m₂ = p} w.processors_most w.processors_most in
      let one = mul-le-mul {n₁ = m * m} {m₁ = line_ticks lim} {n₂ = p * p} {m₂ = line_ticks lim} few (omega arith) in
      let most = mul-le-mul {n₁ = lim.tasks} {m₁ = m * m * line_ticks lim} {n₂ = lim.tasks} {m₂ = p * p * line_ticks lim} (omega arith) one in
      omega (arith, nth_most (bottom_levels (job_in d)) t (bottom_most lim (job_in d) held.facts), most)

  module _ {order mem : List ℕ} (a : Arranged (nth d 0) (job_in d).edges order (nth d 0)) {i : ℕ} (f : Filling capacity order d mem i) where
    filling_job : job_in mem ≡ job_in d
    filling_job = job_kept held f.kept (omega arith)

    -- The task before place i is next.
    module _ (l : 0 < i) (h : i ≤ nth d 0) where
      abbrev t : ℕ
      t = nth order (i - 1)

      filling_task : nth order (i - 1) < nth d 0
      filling_task = order_below a (i - 1) (omega arith)

      -- The levels of its successors are there.
      successor : (e : Edge) → In e (outgoing (job_in d) t) → nth mem (level_at capacity + e.to) ≡ nth (bottom_levels (job_in d)) e.to
      successor e m =
          let (n, q) = in_outgoing (job_in d) t e m in
          let (k, b, g, p) = order_later a (i - 1) (omega arith) e n q (to_in held e n) in
          rw (← p) (f.filled k (omega arith) g)

      -- What is stored is its bottom level.
      filling_level : scaled_run (job_in mem) t + greatest (map (sent capacity mem) (outgoing (job_in mem) t)) ≡ nth (bottom_levels (job_in d)) t
      filling_level =
          let j = job_in d in
          rw filling_job
          (ap (λ (xs : List ℕ). scaled_run j t + greatest xs)
          (map_same (sent capacity mem) (λ e. scaled_message j e + nth (bottom_levels j) e.to) (outgoing j t) (λ e m. rw (filling_job, successor e m)))
          ∙ sym (bottom_level lim j held.facts t (rw (tasks_in_lem d) filling_task)))

      -- One level more.
      filling_more : (x : ℕ) → x ≡ scaled_run (job_in mem) t + greatest (map (sent capacity mem) (outgoing (job_in mem) t)) → Filling capacity order d (set mem (level_at capacity + t) x) (i - 1)
      filling_more x e =
          let w = sizes held in
          record {
            kept = kept_set (level_at capacity + t) x f.kept (omega arith) (omega (arith, filling_task));
            filled = λ k b g.
                ⊎_elim
                (λ (q : nth order k ≡ t). rw q (get_or-set_same mem (level_at capacity + t) x 0 (omega (arith, f.kept.size, filling_task)) ∙ e ∙ filling_level))
                (λ q. get_or-set_other mem (level_at capacity + t) (level_at capacity + nth order k) x 0 (λ s. q (omega arith))
                ∙ f.filled k (⊎_elim (λ (p : k ≡ i - 1). absurd (q (rw p))) (λ p. omega arith) (equal_or_not k (i - 1))) g)
                (equal_or_not (nth order k) t);
          }

      pub filling_step : {links : List ℕ} → LinksHeld d links → FillStep lim capacity order d mem links i t
      filling_step s =
          let now = held_kept held f.kept (omega arith) in
          let below : t < nth mem 0 = omega (arith, filling_task, f.kept.before 0 (omega arith)) in
          record {
            held = now;
            linked = links_kept held f.kept (omega arith) s;
            place = omega (arith, filling_task, (sizes held).tasks_most.1);
            below = below;
            run = scaled_most_lem mem now t below;
            levels = λ e m. rw (successor e (rw filling_job at m)) (level_most_lem e.to);
            job = filling_job;
            more = λ x y p q. filling_more (x + y) (omega (arith, p, q));
          }

    pub filling_done : i ≡ 0 → KeptOutside (level_at capacity) (line_at capacity) d mem × LevelsFilled capacity mem
    filling_done z = (
      f.kept,
      λ t h.
          let g : t < nth d 0 = omega (arith, f.kept.before 0 (omega arith)) in
          let (k, l, p) = order_place a t g in
          rw (filling_job, ← p) (f.filled k (omega arith) l),
    )
