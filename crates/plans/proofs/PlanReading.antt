-- A plan's lines, read into rows.
use Rattle.lists.proofs.Prelude.{◌≡◌, refl, ap, sym, ◌∙◌, List, [], ◌∷◌, ◌++◌, map, count_from, ℕ, zero, suc, ◌+◌, ◌-◌, ◌*◌, ◌<◌, ◌≤◌, arith}
use Rattle.lists.proofs.Prelude.{add-zero, add-one, length, set, take, drop, length-drop, List·getD-append, drop_at, length-take-le, take_all}
use Rattle.lists.proofs.Prelude.{get_or-take, get_or-drop, bytes, nth, Limits, Reading, Reader, found, refused, line, lines, Job, Replica, Line}
use Rattle.lists.proofs.Prelude.{plan_line_rule}
use borrow.Rule.Slice.PartMut.{mid_of, post_of, put_mid, take_put, drop_put, same_len_mid, mid_len}
use Rattle.definitions.specs.Plan.{triples, line_of, plan_line}
use Rattle.heads.specs.Layout.{line_at, blocked_at, row_at, largest_delay_at, processor_at, early_at, late_at}
use Rattle.jobs.specs.Held.{job_in, JobHeld, LinksHeld}
use Rattle.plans.specs.Lines.{line_cells, row_end, replica_in, lines_in, RowHeld, LinesHeld}
use Rattle.lists.specs.Kept.{KeptOutside}
use Rattle.std.specs.Prelude.{Result, Ok, Err}
use Rattle.text.specs.Numbers.{number_of}
use Rattle.text.specs.declared.refusal.Refusal.{Refusal}
use Rattle.text.specs.Meaning.{reading, ruled, line_into}
use Rattle.text.proofs.Refusals.{positive}
use Rattle.plans.specs.Loading.{line_in, RowFilled, LineRead}
use Rattle.lines.proofs.LineLaws.{line_fits, ruled_no, ruled_yes, LinesUpTo, lines_none, lines_read, lines_refused, lines_more}
use Rattle.lists.proofs.Kept.{same_before, same_behind, kept_all, kept_then, kept_wider, kept_set}
use Rattle.jobs.proofs.Held.{Sizes, sizes, job_kept, links_kept, losses_in}
use Rattle.plans.proofs.Lines.{replicas_below, lines_same, standing_behind, standing_more}

-- A row that was read ---------------------------------------------------------------------------------------------------

-- A part was lent, `&mut d[a..b]`, and holds ys now.
module _ (a b : ℕ) (d ys : List ℕ) (p : a ≤ b) (q : b ≤ length d) (l : length ys ≡ b - a) where
  abbrev lent : List ℕ
  lent = put_mid a (b - a) d ys

  pub lent_kept : KeptOutside a b d (put_mid a (b - a) d ys)
  lent_kept =
      record {
        size = same_len_mid a (b - a) d ys (l ∙ sym (mid_len a b d q));
        before = λ i h. sym (get_or-take a lent i 0 h) ∙ ap (λ (x : List ℕ). nth x i) (take_put a (b - a) d ys (omega arith)) ∙ get_or-take a d i 0 h;
        behind = λ i h.
            let e : i ≡ b + (i - b) = omega arith in
            rw e (sym (get_or-drop b lent (i - b) 0) ∙ ap (λ (x : List ℕ). nth x (i - b)) (drop_put a b d ys p q l) ∙ get_or-drop b d (i - b) 0);
      }

  pub lent_cell : (i : ℕ) → i < length ys → nth (put_mid a (b - a) d ys) (a + i) ≡ nth ys i
  lent_cell i h =
      sym (get_or-drop a lent i 0) ∙ ap (λ (x : List ℕ). nth x i) (drop_at (take a d) (ys ++ post_of a (b - a) d) a (length-take-le a d (omega arith)))
      ∙ List·getD-append ys (post_of a (b - a) d) 0 i h

-- The numbers of replicas stand in the line at a, from replica k on.
row_triples : (mem : List ℕ) (a k c : ℕ) (xs : List ℕ) → length xs ≡ 3 * c → ((i : ℕ) → i < length xs → nth mem (processor_at a k + i) ≡ nth xs i)
    → triples xs ≡ map (λ i. replica_in a i mem) (count_from k c)
unfolding triples count_from
row_triples mem a k zero [] l h = refl
row_triples mem a k zero (p ∷ xs) l h = absurd (omega arith)
row_triples mem a k (suc c) [] l h = absurd (omega arith)
row_triples mem a k (suc c) (p ∷ []) l h = absurd (omega arith)
row_triples mem a k (suc c) (p ∷ e ∷ []) l h = absurd (omega arith)
row_triples mem a k (suc c) (p ∷ e ∷ x ∷ xs) l h =
    rw (cell 0 (processor_at a k) (omega arith) (omega arith), cell 1 (early_at a k) (omega arith) (omega arith), cell 2 (late_at a k) (omega arith) (omega arith))
    (ap (λ (rs : List Replica). record { processor = p; early = e; late = x } ∷ rs) (row_triples mem a (suc k) c xs (omega arith)
    (λ i g. cell (suc (suc (suc i))) (processor_at a (suc k) + i) (omega arith) (omega arith))))
  where
    cell : (i n : ℕ) → n ≡ processor_at a k + i → i < length (p ∷ e ∷ x ∷ xs) → nth mem n ≡ nth (p ∷ e ∷ x ∷ xs) i
    cell i n q g = rw q (h i g)

-- The numbers vs of a line stand in the row at a.
row_line : (mem : List ℕ) (a : ℕ) (vs : List ℕ) → ((i : ℕ) → i < length vs → nth mem (a + i) ≡ nth vs i) → length vs ≡ line_cells mem → line_of vs ≡ line_in a mem
row_line mem a vs h g =
    let t : nth vs 0 ≡ nth mem a = sym (h 0 (omega arith)) ∙ ap (nth mem) (add-zero a) in
    let m : length (drop 1 vs) ≡ 3 * (nth mem 3 + 1) = omega (arith, length-drop 1 vs) in
    let rs = row_triples mem a 0 (nth mem 3 + 1) (drop 1 vs) m
    (λ i l. let e : processor_at a 0 + i ≡ a + (1 + i) = omega arith in rw (e, get_or-drop 1 vs i 0) (h (1 + i) (omega arith))) in
    rw (t, rs, ← replicas_below mem a (nth mem 3 + 1))

-- The row of one line more ends within the memory.
pub row_within : {l : Limits} {capacity k : ℕ} {d : List ℕ} → LinesHeld l capacity k d → k < nth d 0 → row_end (row_at capacity k) ≤ length d
row_within u h = omega (arith, sizes u.job, h)

pub row_numbers : {l : Limits} {capacity k : ℕ} {d : List ℕ} → LinesHeld l capacity k d → line_cells d ≤ row_end 0
row_numbers u = omega (arith, (sizes u.job).row_fits)

-- k lines stand in d, and the n numbers of one more were read into its row, which is at a.
module _ {l : Limits} {capacity k : ℕ} {d : List ℕ} (u : LinesHeld l capacity k d) (h : k < nth d 0) (a n : ℕ) (z : a ≡ row_at capacity k) (q : n ≡ line_cells d) (ys : List ℕ)
    (o : length ys ≡ length (mid_of a (a + n - a) d)) where
  abbrev lent_row : List ℕ
  lent_row = put_mid a (a + n - a) d ys

  within : a + n ≤ length d
  within = omega (arith, row_within u h, row_numbers u, q, z)

  width : length ys ≡ n
  width = omega (arith, o, mid_len a (a + n) d within)

  row_kept : KeptOutside a (a + n) d lent_row
  row_kept = lent_kept a (a + n) d ys (omega arith) within (omega (arith, width))

  line_filled : line_of (take n ys) ≡ line_in (row_at capacity k) lent_row
  line_filled =
      rw (take_all n ys (omega (arith, width)), ← z)
      (row_line lent_row a ys (lent_cell a (a + n) d ys (omega arith) within (omega (arith, width))) (omega (arith, row_kept.before 3 (omega (arith, z)), width, q)))

  pub row_filled : (s t : List ℕ) (r : Result (Unit {0}) Refusal)
      → reading t (take n ys) r ≡ line_into l (length (mid_of a (a + n - a) d)) (bytes "T,") n s → RowFilled l capacity k s t d lent_row r
  unfolding plan_line
  row_filled s t r e =
      record {
        kept = kept_wider (row_at capacity k) (row_end (row_at capacity k)) row_kept (omega (arith, z)) (omega (arith, z, q, row_numbers u));
        answer = by r (e ∙ line_fits l (length (mid_of a (a + n - a) d)) (bytes "T,") n s (omega (arith, o, width)));
      }
    where
      by : (r : Result (Unit {0}) Refusal) → reading t (take n ys) r ≡ line l (bytes "T,") n s → reading t (line_in (row_at capacity k) lent_row) r ≡ plan_line l (job_in d) s
      by (Ok x) e = let m : 1 + 3 * (1 + (job_in d).losses) ≡ n = omega (arith, losses_in d, q) in rw (m, ← e, line_filled)
      by (Err x) e = let m : 1 + 3 * (1 + (job_in d).losses) ≡ n = omega (arith, losses_in d, q) in rw (m, ← e)

-- One line ----------------------------------------------------------------------------------------------------------------

-- What a T line of the job in d has to be.
abbrev form_of : Limits → List ℕ → Reader Line
form_of l d = plan_line l (job_in d)

abbrev rule_of : Limits → List ℕ → List Line → Line → ℕ
rule_of l d = plan_line_rule l (job_in d)

-- One line more, after the lines in `seen`.
one_more : (capacity : ℕ) (d mem : List ℕ) (k : ℕ) (seen : List Line) → lines_in capacity (nth d 3 + 1) k mem ≡ seen → nth mem 3 ≡ nth d 3
    → lines_in capacity (nth d 3 + 1) (suc k) mem ≡ seen ++ line_in (row_at capacity k) mem ∷ []
unfolding lines_in
one_more capacity d mem k seen e l = rw (e, l)

-- k lines stand in d, and one more was read into its row, with the answer r.
module _ {l : Limits} {capacity k : ℕ} {d s q mem : List ℕ} {r : Result (Unit {0}) Refusal} (u : LinesHeld l capacity k d) (h : k < nth d 0) (f : RowFilled l capacity k s q d mem r) where
  abbrev seen : List Line
  seen = lines_in capacity (nth d 3 + 1) k d

  abbrev latest : Line
  latest = line_in (row_at capacity k) mem

  limits : Sizes l capacity d
  limits = sizes u.job

  all_kept : KeptOutside (line_at capacity) (largest_delay_at capacity) d mem
  all_kept = kept_wider (line_at capacity) (largest_delay_at capacity) f.kept (omega arith) (omega (arith, limits, h))

  pub filled_standing : LinesHeld l capacity k mem
  filled_standing = standing_behind f.kept u (omega arith)

  pub filled_asked : {links : List ℕ} → LinksHeld d links → JobHeld l capacity mem × LinksHeld mem links × (row_end (row_at capacity k) ≤ length mem)
  filled_asked i = (filled_standing.job, links_kept u.job f.kept (omega arith) i, omega (arith, row_within u h, f.kept.size))

  losses_filled : nth mem 3 ≡ nth d 3
  losses_filled = all_kept.before 3 (omega arith)

  lines_filled : lines_in capacity (nth d 3 + 1) k mem ≡ seen
  lines_filled = lines_same d mem capacity (nth d 3 + 1) k (omega (arith, limits)) (same_before (row_at capacity 0) (row_at capacity k) f.kept (omega arith))

  -- It was read; x is what its rule says.
  module _ (i : Unit {0}) (e : r ≡ Ok i) (x : ℕ) (g : x ≡ plan_line_rule l (job_in mem) (lines_in capacity (nth mem 3 + 1) k mem) latest) where
    line_found : form_of l d s ≡ found latest q
    line_found = sym f.answer ∙ ap (reading q latest) e

    by_rule : x ≡ rule_of l d seen latest
    by_rule =
        g ∙ ap (λ (j : Job). plan_line_rule l j (lines_in capacity (nth mem 3 + 1) k mem) latest) (job_kept u.job all_kept (omega arith))
        ∙ ap (λ (z : ℕ). rule_of l d (lines_in capacity (z + 1) k mem) latest) losses_filled
        ∙ ap (λ (ns : List Line). rule_of l d ns latest) lines_filled

    pub read_no : (y : Refusal) → x ≡ number_of y → LineRead l capacity k s q d mem (Err y)
    read_no y o =
        record {
          kept = all_kept;
          latest = latest;
          answer = ruled_no (form_of l d) (rule_of l d) seen s latest q line_found (number_of y) (sym o ∙ by_rule) (positive y);
          standing = λ e. absurd cc;
          more = λ e. absurd cc;
        }

    -- It gets its place in the table.
    module _ (t : (nth mem (row_at capacity k) < nth mem 0) × (nth mem (line_at capacity + nth mem (row_at capacity k)) ≡ 0) × RowHeld l (row_at capacity k) mem) where
      abbrev last : List ℕ
      last = set mem (line_at capacity + nth mem (row_at capacity k)) (suc k)

      pub read_yes : x ≡ 0 → LineRead l capacity k s q d (set mem (line_at capacity + nth mem (row_at capacity k)) (k + 1)) (Ok i)
      read_yes o =
          let c : KeptOutside (line_at capacity) (blocked_at capacity) mem last =
          kept_set (line_at capacity + nth mem (row_at capacity k)) (suc k) kept_all (omega arith) (omega (arith, sizes filled_standing.job, t.0)) in
          rw (add-one k)
          (record {
            kept = kept_then all_kept (kept_wider (line_at capacity) (largest_delay_at capacity) c (omega arith) (omega arith));
            latest = latest;
            answer = ruled_yes (form_of l d) (rule_of l d) seen s latest q line_found x by_rule (omega arith);
            standing = λ f. standing_more filled_standing (omega (arith, all_kept.before 0 (omega arith), h)) t.0 t.1 refl t.2;
            more = λ f.
                lines_same mem last capacity (nth d 3 + 1) (suc k) (omega (arith, limits)) (same_behind (row_at capacity 0) (row_at capacity (suc k)) c (omega arith))
                ∙ one_more capacity d mem k seen lines_filled losses_filled;
          })

-- Line by line ----------------------------------------------------------------------------------------------------------

-- All T lines of the job in d, from the front of a text on.
abbrev pub all_lines : Limits → List ℕ → List ℕ → Reading (List Line)
all_lines l d s = lines (plan_line l (job_in d)) (plan_line_rule l (job_in d)) (nth d 0) [] s

-- Of the lines at the front of the text `start`, k were read, into the memory d; the text s is left.
pub record PlanUpTo (l : Limits) (capacity : ℕ) (start d : List ℕ) (k : ℕ) (s mem : List ℕ) : Type 0 where
  pub job : JobHeld l capacity d
  pub kept : KeptOutside (line_at capacity) (largest_delay_at capacity) d mem
  pub standing : LinesHeld l capacity k mem
  pub read : LinesUpTo (plan_line l (job_in d)) (plan_line_rule l (job_in d)) start (nth d 0) k (lines_in capacity (nth d 3 + 1) k mem) s

pub upto_none : {l : Limits} {capacity : ℕ} (s d : List ℕ) → LinesHeld l capacity 0 d → PlanUpTo l capacity s d 0 s d
unfolding lines_in
upto_none s d h = record { job = h.job; kept = kept_all; standing = h; read = lines_none }

module _ {l : Limits} {capacity : ℕ} {start d : List ℕ} {k : ℕ} {s mem : List ℕ} (u : PlanUpTo l capacity start d k s mem) where
  pub tasks_kept : nth mem 0 ≡ nth d 0
  tasks_kept = u.kept.before 0 (omega arith)

  losses_kept : nth mem 3 ≡ nth d 3
  losses_kept = u.kept.before 3 (omega arith)

  -- All lines were read.
  pub upto_end : nth d 0 ≤ k → (found (lines_in capacity (nth mem 3 + 1) (nth mem 0) mem) s ≡ all_lines l d start) × LinesHeld l capacity (nth mem 0) mem
  upto_end h = let e : nth mem 0 ≡ k = omega (arith, u.standing.count, tasks_kept, h) in (rw (e, losses_kept) (lines_read u.read h), rw e u.standing)

  -- One line more was read, with the answer r.
  module _ (h : k < nth d 0) {q new : List ℕ} {r : Result (Unit {0}) Refusal} (v : LineRead l capacity k s q mem new r) where
    answer_is : reading q v.latest r ≡ ruled (form_of l d) (rule_of l d) (lines_in capacity (nth d 3 + 1) k mem) s
    answer_is =
        v.answer
        ∙ ap (λ (j : Job). ruled (plan_line l j) (plan_line_rule l j) (lines_in capacity (nth mem 3 + 1) k mem) s) (job_kept u.job u.kept (omega arith))
        ∙ ap (λ (z : ℕ). ruled (form_of l d) (rule_of l d) (lines_in capacity (z + 1) k mem) s) losses_kept

    pub upto_kept : KeptOutside (line_at capacity) (largest_delay_at capacity) d new
    upto_kept = kept_then u.kept v.kept

    pub upto_no : (x : Refusal) → r ≡ Err x → refused (number_of x) ≡ all_lines l d start
    upto_no x e = lines_refused u.read h v.latest q answer_is e

    pub upto_next : (i : Unit {0}) → r ≡ Ok i → PlanUpTo l capacity start d (k + 1) q new
    upto_next i e =
        let more : lines_in capacity (nth d 3 + 1) (k + 1) new ≡ lines_in capacity (nth d 3 + 1) k mem ++ v.latest ∷ [] =
        rw (add-one k, ← losses_kept) (v.more e) in
        record { job = u.job; kept = upto_kept; standing = rw (add-one k) (v.standing e); read = rw more (lines_more u.read h v.latest q answer_is e) }
