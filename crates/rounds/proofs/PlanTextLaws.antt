-- The text of a plan that stands in a memory, line by line.
use Rattle.lists.proofs.Prelude.{◌≡◌, refl, ap, sym, ◌∙◌, List, [], ◌∷◌, ◌++◌, append_assoc, append-nil, ℕ, zero, suc, ◌+◌, ◌-◌, ◌%◌, ◌^◌, ◌<◌, ◌≤◌, mul-le-mul, arith, add-one, length, take, drop, length-take, length-drop, drop-cons, get_or-drop, take-suc, bytes, nth, Limits, line_text, Line, plan_text}
use Rattle.definitions.specs.Plan.{replica_numbers, plan_lines_text}
use Rattle.text.specs.Meaning.{written}
use Rattle.printing.specs.Rendered.{Rendered}
use Rattle.printing.proofs.WriteLaws.{few_counted}
use Rattle.printing.proofs.Rendering.{rendered_none, rendered_more}
use Rattle.lists.proofs.ListLaws.{joined_last}
use Rattle.heads.specs.Layout.{row_cells, row_at, processor_at, early_at, late_at}
use Rattle.jobs.specs.Held.{job_in}
use Rattle.jobs.proofs.Held.{Sizes}
use Rattle.plans.specs.Lines.{row_end, replica_in, row_replicas, lines_in}
use Rattle.plans.specs.Loading.{line_in, plan_in}
use Rattle.rounds.specs.Texts.{head_in, head_bytes, row_bytes, row_line}

-- The first n cells from a on, and the next one, which is i.
take_next : (mem : List ℕ) (a n i : ℕ) → i ≡ a + n → i < length mem → take (suc n) (drop a mem) ≡ take n (drop a mem) ++ nth mem i ∷ []
take_next mem a n i e h = take-suc (drop a mem) n 0 (rw (length-drop a mem) (omega arith)) ∙ rw (get_or-drop a mem n 0, e)

-- A line's numbers stand in the cells of its row.
row_numbers : (mem : List ℕ) (a w : ℕ) → processor_at a w ≤ length mem → take (processor_at a w - a) (drop a mem) ≡ nth mem a ∷ replica_numbers (row_replicas a w mem)
unfolding row_replicas replica_numbers
row_numbers mem a zero h = let e : processor_at a 0 - a ≡ 1 = omega arith in rw (e, drop-cons mem a 0 (omega arith))
row_numbers mem a (suc w) h =
    let n = processor_at a w - a in
    let e : processor_at a (suc w) - a ≡ suc (suc (suc n)) = omega arith in
    rw (
      e,
      take_next mem a (suc (suc n)) (late_at a w) (omega arith) (omega arith),
      take_next mem a (suc n) (early_at a w) (omega arith) (omega arith),
      take_next mem a n (processor_at a w) (omega arith) (omega arith),
      row_numbers mem a w (omega arith),
      joined_last replica_numbers (λ r. r.processor ∷ r.early ∷ r.late ∷ []) refl (λ r rs. refl) (row_replicas a w mem) (replica_in a w mem),
    ) (simp append_assoc)

-- Row k stands from a to b, as it is passed.
module _ {lim : Limits} {capacity k a b : ℕ} {mem : List ℕ} (s : Sizes lim capacity mem) (h : k < nth mem 0) (e : a ≡ row_at capacity k) (f : b ≡ processor_at a (nth mem 3 + 1)) where
  pub row_within : (b ≤ row_end a) × (row_end a ≤ length mem)
  row_within = (omega (arith, s.row_fits, f), omega (arith, s, h, e))

  pub row_part : line_text lim (bytes "T,") (take (b - a) (drop a mem)) ≡ row_line lim capacity k mem
  unfolding row_line
  row_part = rw (f, row_numbers mem a (nth mem 3 + 1) (omega (arith, row_within)), e)

  pub row_counted : 1 ≤ lim.powers → row_bytes lim < 2 ^ 64 → (r : ℕ) → r ≡ length (line_text lim (bytes "T,") (take (b - a) (drop a mem))) % 2 ^ 64
      → (r ≡ length (row_line lim capacity k mem)) × (r ≤ row_bytes lim)
  row_counted o z r q =
      let m : length (take (b - a) (drop a mem)) ≤ row_cells = omega (arith, length-take (b - a) (drop a mem), row_within) in
      let c = mul-le-mul {n₁ = lim.powers + 1} {m₁ = length (take (b - a) (drop a mem))} {n₂ = lim.powers + 1} {m₂ = row_cells} (omega arith) m in
      let (g, n) = few_counted lim o (bytes "T,") (take (b - a) (drop a mem)) (row_bytes lim) r (omega (arith, c)) z q in
      (g ∙ ap length row_part, n)

-- The plan's head and its first k rows.
abbrev pub rows_after_head : Limits → ℕ → ℕ → List ℕ → List ℕ
rows_after_head lim capacity k mem = line_text lim (bytes "PLAN,") (head_in capacity mem) ++ plan_lines_text lim (lines_in capacity (nth mem 3 + 1) k mem)

module _ (lim : Limits) (capacity : ℕ) (mem : List ℕ) where
  -- The head was rendered.
  pub head_rendered : 1 ≤ lim.powers → head_bytes lim < 2 ^ 64 → (vals d e : List ℕ) (n : ℕ) → vals ≡ head_in capacity mem → n ≡ length (line_text lim (bytes "PLAN,") vals) % 2 ^ 64
      → e ≡ written d 0 (line_text lim (bytes "PLAN,") vals) → (n ≤ head_bytes lim) × Rendered (rows_after_head lim capacity 0 mem) d e n
  unfolding lines_in plan_lines_text
  head_rendered o z vals d e n q f g =
      let line = line_text lim (bytes "PLAN,") (head_in capacity mem) in
      let (l, m) = few_counted lim o (bytes "PLAN,") (head_in capacity mem) (head_bytes lim) n (omega arith) z (rw q at f) in
      (m, rw (append-nil line) (rendered_more (rendered_none d) line e n (omega (arith, l)) (rw q at g)))

  -- One row more.
  pub rows_more : (k : ℕ) → rows_after_head lim capacity (k + 1) mem ≡ rows_after_head lim capacity k mem ++ row_line lim capacity k mem
  unfolding row_line lines_in plan_lines_text
  rows_more k =
      let ns = lines_in capacity (nth mem 3 + 1) k mem in
      let text : Line → List ℕ = λ n. line_text lim (bytes "T,") (n.task ∷ replica_numbers n.replicas) in
      rw (add-one k, joined_last (plan_lines_text lim) text refl (λ n ns. refl) ns (line_in (row_at capacity k) mem))
      (sym (append_assoc (line_text lim (bytes "PLAN,") (head_in capacity mem)) (plan_lines_text lim ns) (row_line lim capacity k mem)))

  pub plan_text_lem : plan_text lim (job_in mem) (plan_in capacity mem) ≡ rows_after_head lim capacity (nth mem 0) mem
  unfolding plan_text job_in plan_in
  plan_text_lem = refl
