-- The memory before the first task is placed: cleared tables, counted edges, and all of the plan still to be drawn up.
use Rattle.lists.proofs.Prelude.{◌≡◌, refl, ap, ◌∙◌, sym, inl, inr, List, [], ◌∷◌, map, ℕ, ◌+◌, ◌*◌, ◌-◌, ◌<◌, arith, add-zero, eq-eqb, eqb, length, set, length-set, length-map, ext_get_or, nth, keep, below, Limits, Job, incoming, largest, waiting_from, bottom_levels, plan_for}
use Rattle.definitions.proofs.Lists.{keep_every, nth_below, length_count, in_below}
use Rattle.definitions.proofs.BottomLevels.{length_bottom_levels}
use Rattle.heads.specs.Layout.{memory_size, level_at, line_at, blocked_at, priority_at, row_at, largest_delay_at}
use Rattle.jobs.specs.Held.{job_in, JobHeld}
use Rattle.plans.specs.Lines.{placed_in, lines_in}
use Rattle.rounds.specs.Schedule.{top_in, LargestDelaysFilled, LevelsFilled}
use Rattle.lists.specs.Kept.{KeptOutside}
use Rattle.rounds.specs.Planning.{waiting_in, Drawn, Ranked, Cleared}
use Rattle.jobs.proofs.Held.{tasks_in_lem, job_kept, held_kept}
use Rattle.lists.proofs.Kept.{kept_all, kept_set, kept_then, kept_wider}
use Rattle.plans.proofs.Lines.{standing_none}
use Rattle.rounds.proofs.Tables.{from_below, levels_kept, far_kept}
use Rattle.rounds.proofs.FreeLaws.{free_both}
use Rattle.rounds.proofs.DrawLaws.{waiting_from_lem}
use Rattle.rounds.proofs.Drawing.{waiting_at, waiting_map}
use Rattle.lists.proofs.Upward.{table_more, table_other}

-- No task is placed -------------------------------------------------------------------------------------------------

module _ (capacity : ℕ) (j : Job) (mem : List ℕ) (t n x : ℕ) (h : t < 8 * capacity) (z : length mem ≡ memory_size capacity) where
  abbrev one : List ℕ
  one = set mem (line_at capacity + t) 0

  abbrev two : List ℕ
  two = set one (blocked_at capacity + t) n

  abbrev three : List ℕ
  three = set two (priority_at capacity + t) x

  pub cleared_kept : (d : List ℕ) → KeptOutside (line_at capacity) (row_at capacity 0) d mem → KeptOutside (line_at capacity) (row_at capacity 0) d three
  cleared_kept d k =
      kept_set (priority_at capacity + t) x (kept_set (blocked_at capacity + t) n (kept_set (line_at capacity + t) 0 k (omega arith) (omega arith)) (omega arith) (omega arith))
      (omega arith) (omega arith)

  pub cleared_more : n ≡ length (incoming j t) → x ≡ nth mem (level_at capacity + t) → Cleared capacity t j mem → Cleared capacity (t + 1) j three
  cleared_more f e c =
      let a : length one ≡ memory_size capacity = length-set mem (line_at capacity + t) 0 ∙ z in
      let b : length two ≡ memory_size capacity = length-set one (blocked_at capacity + t) n ∙ a in
      let count : ℕ → ℕ = λ t. length (incoming j t) in
      let level : ℕ → ℕ = λ i. nth mem (level_at capacity + i) in
      record {
        line = table_other (λ _. 0) two (line_at capacity) (t + 1) (priority_at capacity + t) x
            (table_other (λ _. 0) one (line_at capacity) (t + 1) (blocked_at capacity + t) n (table_more (λ _. 0) mem (line_at capacity) t 0 c.line (omega arith) refl) (inr (omega arith)))
            (inr (omega arith));
        blocked = table_other count two (blocked_at capacity) (t + 1) (priority_at capacity + t) x
            (table_more count one (blocked_at capacity) t n (table_other count mem (blocked_at capacity) t (line_at capacity + t) 0 c.blocked (inl (omega arith))) (omega arith) f) (inr (omega arith));
        priority = λ i l.
            let old = table_other level mem (priority_at capacity) t (line_at capacity + t) 0 c.priority (inl (omega arith)) in
            table_more level two (priority_at capacity) t x (table_other level one (priority_at capacity) t (blocked_at capacity + t) n old (inl (omega arith))) (omega arith) e i l
            ∙ sym ((cleared_kept mem kept_all).before (level_at capacity + i) (omega arith));
      }

-- All of the plan is still to be drawn up ---------------------------------------------------------------------------

-- The table of bottom levels, as a list.
levels_list : {lim : Limits} {capacity : ℕ} (mem : List ℕ) → JobHeld lim capacity mem → LevelsFilled capacity mem
    → map (λ t. nth mem (level_at capacity + t)) (below (nth mem 0)) ≡ bottom_levels (job_in mem)
levels_list {lim} {capacity} mem h f =
    let level : ℕ → ℕ = λ t. nth mem (level_at capacity + t) in
    let n : length (map level (below (nth mem 0))) ≡ nth mem 0 = length-map (below (nth mem 0)) level ∙ length_count 0 (nth mem 0) in
    let m : length (bottom_levels (job_in mem)) ≡ nth mem 0 = length_bottom_levels lim (job_in mem) h.facts ∙ tasks_in_lem mem in
    ext_get_or 0 (map level (below (nth mem 0))) (bottom_levels (job_in mem)) (n ∙ sym m) (λ i l. let g : i < nth mem 0 = rw n at l in nth_below level (nth mem 0) i g ∙ f i g)

no_members : {A : Type 0} (xs : List A) → length xs ≡ 0 → xs ≡ []
no_members [] e = refl
no_members (x ∷ xs) e = absurd (omega arith)

module _ {lim : Limits} {capacity : ℕ} {mem : List ℕ} (h : JobHeld lim capacity mem) (line : (t : ℕ) → t < nth mem 0 → nth mem (line_at capacity + t) ≡ 0) where
  all_wait : LevelsFilled capacity mem → waiting_in capacity mem ≡ waiting_from 0 (bottom_levels (job_in mem))
  all_wait f =
      let ts = below (nth mem 0) in
      waiting_map capacity mem
      ∙ ap (map (waiting_at capacity mem)) (keep_every (λ t. eqb (nth mem (line_at capacity + t)) 0) ts (λ t i. eq-eqb (nth mem (line_at capacity + t)) 0 (line t (in_below (nth mem 0) t i))))
      ∙ sym (waiting_from_lem (λ t. nth mem (level_at capacity + t)) 0 (nth mem 0)) ∙ ap (waiting_from 0) (levels_list mem h f)

  outset_drawn : LargestDelaysFilled capacity mem → LevelsFilled capacity mem → Drawn lim capacity 0 mem
  unfolding lines_in placed_in plan_for
  outset_drawn c f =
      let n : nth mem 0 - 0 ≡ (job_in mem).tasks = omega (arith, tasks_in_lem mem) in
      record {
        standing = standing_none h line;
        far = c;
        levels = f;
        ticks = λ i x l. absurd (omega arith);
        settled = λ late d i. absurd i;
        rest = rw (n, all_wait f);
      }

  outset_ranked : ((t : ℕ) → t < nth mem 0 → nth mem (blocked_at capacity + t) ≡ length (incoming (job_in mem) t))
      → ((t : ℕ) → t < nth mem 0 → nth mem (priority_at capacity + t) ≡ nth mem (level_at capacity + t)) → Ranked capacity [] mem
  unfolding keep top_in largest
  outset_ranked b p =
      record {
        blocked = λ u l.
            b u l
            ∙ ap length (sym (keep_every (λ e. eqb (nth mem (line_at capacity + e.from)) 0) (incoming (job_in mem) u)
            (λ e i. eq-eqb (nth mem (line_at capacity + e.from)) 0 (line e.from (from_below h u e i)))))
            ∙ sym (add-zero _);
        priorities = λ u l f.
            let n = sym (b u l) ∙ (free_both capacity mem u f).1 in
            p u l ∙ rw (no_members (incoming (job_in mem) u) n) (omega arith);
      }

-- Levels, largest delays and cleared tasks, one after the other.
module _ {lim : Limits} {capacity : ℕ} {a b c f : List ℕ} (h : JobHeld lim capacity a)
    (levelled : KeptOutside (level_at capacity) (line_at capacity) a b × LevelsFilled capacity b)
    (spread : KeptOutside (largest_delay_at capacity) (memory_size capacity) b c × LargestDelaysFilled capacity c)
    (cleared : KeptOutside (line_at capacity) (row_at capacity 0) c f × Cleared capacity (nth f 0) (job_in c) f) where
  -- What came after the levels.
  after_levels : KeptOutside (line_at capacity) (memory_size capacity) b f
  after_levels =
      kept_then (kept_wider (line_at capacity) (memory_size capacity) spread.0 (omega arith) (omega arith))
      (kept_wider (line_at capacity) (memory_size capacity) cleared.0 (omega arith) (omega arith))

  pub outset_kept : KeptOutside (level_at capacity) (memory_size capacity) a f
  outset_kept =
      kept_then (kept_wider (level_at capacity) (memory_size capacity) levelled.0 (omega arith) (omega arith))
      (kept_wider (level_at capacity) (memory_size capacity) after_levels (omega arith) (omega arith))

  held_b : JobHeld lim capacity b
  held_b = held_kept h levelled.0 (omega arith)

  held_c : JobHeld lim capacity c
  held_c = held_kept held_b spread.0 (omega arith)

  held_f : JobHeld lim capacity f
  held_f = held_kept held_c cleared.0 (omega arith)

  pub outset : Drawn lim capacity 0 f
  outset =
      outset_drawn held_f cleared.1.line (far_kept held_c cleared.0 (omega arith) (omega arith) spread.1)
      (levels_kept held_b after_levels (omega arith) (omega arith) levelled.1)

  pub outset_counts : Ranked capacity [] f
  outset_counts = outset_ranked held_f cleared.1.line (λ t l. rw (job_kept held_c cleared.0 (omega arith)) (cleared.1.blocked t l)) cleared.1.priority
