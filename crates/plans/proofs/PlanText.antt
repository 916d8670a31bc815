-- A plan's text as a whole: the head, the lines, and what is left over.
use Rattle.lists.proofs.Prelude.{◌≡◌, refl, ◌∙◌, List, [], ◌∷◌, ℕ, zero, suc, ◌+◌, ◌*◌, ◌<◌, ◌≤◌, true, false, arith, lt-ltb, le-ltb, length, set}
use Rattle.lists.proofs.Prelude.{take, length-set, get_or-take, get_or-set_same, get_or-set_other, bytes, nth, Limits, empty, found, next, return}
use Rattle.lists.proofs.Prelude.{ended, good, bad, Line, plan_head_of, plan_head_rule, read_plan}
use Rattle.definitions.specs.Plan.{plan_head, plan_lines}
use Rattle.std.specs.Prelude.{Result, Ok, Err}
use Rattle.text.specs.Numbers.{number_of}
use Rattle.text.specs.declared.refusal.Refusal.{Refusal}
use Rattle.text.specs.declared.refusal.Refusal.TheVariants.{TooLong, BadLine}
use Rattle.text.specs.Meaning.{reading, line_into}
use Rattle.heads.specs.Layout.{line_at, blocked_at, row_at, largest_delay_at, lower_at, upper_at}
use Rattle.jobs.specs.Held.{job_in, JobHeld}
use Rattle.plans.specs.Lines.{lines_in, LinesHeld}
use Rattle.lists.specs.Kept.{KeptOutside}
use Rattle.plans.specs.Loading.{plan_in, plan_from, PlanLoaded}
use Rattle.lines.proofs.LineLaws.{line_reading}
use Rattle.jobs.proofs.Held.{sizes, job_kept, held_kept, tasks_in_lem}
use Rattle.lists.proofs.Kept.{same_behind, kept_all, kept_set, kept_then, kept_wider}
use Rattle.plans.proofs.Lines.{lines_same, standing_choice, standing_none}
use Rattle.text.proofs.Refusals.{positive}
use Rattle.plans.proofs.PlanReading.{all_lines}

module _ (l : Limits) (d s : List ℕ) where
  pub plan_long : (capacity : ℕ) (mem : List ℕ) → l.text_length < length s → PlanLoaded l capacity (read_plan l (job_in d) s) mem (Err TooLong)
  unfolding read_plan
  plan_long capacity mem h = rw (lt-ltb _ _ h)

  module _ (h : length s ≤ l.text_length) where
    -- The head was read with the answer r, into vs, and the text q is left.
    module _ (vs q : List ℕ) {r : Result (Unit {0}) Refusal} (e : reading q (take 5 vs) r ≡ line_into l 5 (bytes "PLAN,") 5 s) where
      pub plan_head_bad : (capacity : ℕ) (mem : List ℕ) (x : Refusal) → r ≡ Err x → PlanLoaded l capacity (read_plan l (job_in d) s) mem (Err x)
      unfolding read_plan plan_lines plan_head
      plan_head_bad capacity mem x f = rw (le-ltb _ _ h, line_reading l 5 (bytes "PLAN,") 5 s q vs r (Err x) e (omega arith) f)

      module _ (i : Unit {0}) (f : r ≡ Ok i) where
        head_read : plan_head l s ≡ found (plan_head_of vs) q
        unfolding plan_head
        head_read =
            rw (
              line_reading l 5 (bytes "PLAN,") 5 s q vs r (Ok i) e (omega arith) f,
              get_or-take 5 vs 0 0 (omega arith),
              get_or-take 5 vs 1 0 (omega arith),
              get_or-take 5 vs 2 0 (omega arith),
              get_or-take 5 vs 3 0 (omega arith),
              get_or-take 5 vs 4 0 (omega arith),
            )

        head_no : (x : ℕ) → x ≡ plan_head_rule l (job_in d) (plan_head_of vs) → 0 < x → read_plan l (job_in d) s ≡ bad x
        unfolding read_plan plan_lines
        head_no zero g o = absurd (omega arith)
        head_no (suc x) g o = rw (le-ltb _ _ h, head_read, ← g)

        pub plan_head_no : (capacity : ℕ) (mem : List ℕ) (x : Refusal) → number_of x ≡ plan_head_rule l (job_in d) (plan_head_of vs) → PlanLoaded l capacity (read_plan l (job_in d) s) mem (Err x)
        plan_head_no capacity mem x g = rw (head_no (number_of x) g (positive x))

        -- The head passes its rule.
        pub plan_next : 0 ≡ plan_head_rule l (job_in d) (plan_head_of vs) → read_plan l (job_in d) s ≡ plan_from l (job_in d) (nth vs 3) (nth vs 4) q
        unfolding read_plan plan_lines plan_from
        plan_next g = rw (le-ltb _ _ h, head_read, ← g)

-- M* and M are stored.
module _ {l : Limits} {capacity : ℕ} (mem : List ℕ) (lower upper : ℕ) (s : LinesHeld l capacity (nth mem 0) mem) where
  abbrev stored : List ℕ
  stored = set (set mem (lower_at capacity) lower) (upper_at capacity) upper

  stored_kept : KeptOutside (blocked_at capacity) (row_at capacity 0) mem (set (set mem (lower_at capacity) lower) (upper_at capacity) upper)
  stored_kept = kept_set (upper_at capacity) upper (kept_set (lower_at capacity) lower kept_all (omega arith) (omega arith)) (omega arith) (omega arith)

  stored_standing : LinesHeld l capacity (nth (set (set mem (lower_at capacity) lower) (upper_at capacity) upper) 0) (set (set mem (lower_at capacity) lower) (upper_at capacity) upper)
  stored_standing = rw (stored_kept.before 0 (omega arith)) (standing_choice stored_kept s (omega arith) (omega arith))

  stored_plan : plan_in capacity (set (set mem (lower_at capacity) lower) (upper_at capacity) upper) ≡ record { lower = lower; upper = upper; lines = lines_in capacity (nth mem 3 + 1) (nth mem 0) mem }
  unfolding plan_in
  stored_plan =
      let w = sizes s.job in
      let m : upper_at capacity < length (set mem (lower_at capacity) lower) = rw (length-set mem (lower_at capacity) lower) (omega arith) in
      let a : nth stored (lower_at capacity) ≡ lower = get_or-set_other (set mem (lower_at capacity) lower) (upper_at capacity) (lower_at capacity) upper 0 (λ e. omega arith)
      ∙ get_or-set_same mem (lower_at capacity) lower 0
      (omega arith) in
      let b : nth stored (upper_at capacity) ≡ upper = get_or-set_same (set mem (lower_at capacity) lower) (upper_at capacity) upper 0 m in
      rw (
        a,
        b,
        stored_kept.before 3 (omega arith),
        stored_kept.before 0 (omega arith),
        lines_same mem stored capacity (nth mem 3 + 1) (nth mem 0) (omega arith)
            (same_behind (row_at capacity 0) (row_at capacity (nth mem 0)) stored_kept (omega arith)),
      )

-- From the T lines on -----------------------------------------------------------------------------------------------------

-- The table of lines was cleared.
pub cleared_standing : {l : Limits} {capacity : ℕ} {d e : List ℕ} → JobHeld l capacity d → KeptOutside (line_at capacity) (blocked_at capacity) d e
    → ((t : ℕ) → t < 8 * capacity → nth e (line_at capacity + t) ≡ 0) → LinesHeld l capacity 0 e
cleared_standing h k z =
    let w = sizes h in
    standing_none (held_kept h k (omega arith)) (λ t g. z t (omega (arith, w.tasks_most, k.before 0 (omega arith), g)))

-- No text may be left over.
left_over : {A : Type 0} (a : A) (q : List ℕ) → empty q ≡ false → ended (found a q) ≡ bad 2
left_over a [] o = absurd cc
left_over a (b ∷ q) o = refl

none_left : {A : Type 0} (a : A) (q : List ℕ) → empty q ≡ true → ended (found a q) ≡ good a
none_left a [] o = refl
none_left a (b ∷ q) o = absurd cc

-- Then the lines at the front of the text s were read, with the answer r; the text q is left.
pub record AllRead (l : Limits) (capacity : ℕ) (d s q mem : List ℕ) (r : Result (Unit {0}) Refusal) : Type 0 where
  pub kept : KeptOutside (line_at capacity) (largest_delay_at capacity) d mem
  pub answer : reading q (lines_in capacity (nth mem 3 + 1) (nth mem 0) mem) r ≡ all_lines l d s

pub all_read : {l : Limits} {capacity : ℕ} {d e s q mem : List ℕ} {r : Result (Unit {0}) Refusal} → JobHeld l capacity d → KeptOutside (line_at capacity) (blocked_at capacity) d e
    → KeptOutside (line_at capacity) (largest_delay_at capacity) e mem → reading q (lines_in capacity (nth mem 3 + 1) (nth mem 0) mem) r ≡ all_lines l e s
    → AllRead l capacity d s q mem r
all_read {capacity} h k v t =
    record {
      kept = kept_then (kept_wider (line_at capacity) (largest_delay_at capacity) k (omega arith) (omega arith)) v;
      answer = t ∙ rw (job_kept h k (omega arith), k.before 0 (omega arith));
    }

module _ {l : Limits} {capacity : ℕ} {d s q mem : List ℕ} {r : Result (Unit {0}) Refusal} (u : AllRead l capacity d s q mem r) (lower upper : ℕ) where
  abbrev ns : List Line
  ns = lines_in capacity (nth mem 3 + 1) (nth mem 0) mem

  lines_then : plan_from l (job_in d) lower upper s ≡ ended (next (all_lines l d s) (λ ns. return (record { lower = lower; upper = upper; lines = ns })))
  unfolding plan_from
  lines_then = rw (tasks_in_lem d)

  lines_are : (x : Result (Unit {0}) Refusal) → r ≡ x → plan_from l (job_in d) lower upper s ≡ ended (next (reading q ns x) (λ ns. return (record { lower = lower; upper = upper; lines = ns })))
  lines_are x f = rw (lines_then, ← u.answer, f)

  pub lines_bad : (x : Refusal) → r ≡ Err x → PlanLoaded l capacity (plan_from l (job_in d) lower upper s) mem (Err x)
  lines_bad x f = rw (lines_are (Err x) f)

  module _ (i : Unit {0}) (f : r ≡ Ok i) where
    pub lines_left_over : empty q ≡ false → PlanLoaded l capacity (plan_from l (job_in d) lower upper s) mem (Err BadLine)
    lines_left_over o = rw (lines_are (Ok i) f, left_over _ q o)

    pub lines_good : empty q ≡ true → LinesHeld l capacity (nth mem 0) mem
        → KeptOutside (line_at capacity) (largest_delay_at capacity) d (set (set mem (lower_at capacity) lower) (upper_at capacity) upper)
        × PlanLoaded l capacity (plan_from l (job_in d) lower upper s) (set (set mem (lower_at capacity) lower) (upper_at capacity) upper) (Ok i)
    lines_good o w = (
      kept_then u.kept (kept_wider (line_at capacity) (largest_delay_at capacity) (stored_kept mem lower upper w) (omega arith) (omega arith)),
      rw (lines_are (Ok i) f, none_left _ q o) (refl, stored_plan mem lower upper w, stored_standing mem lower upper w),
    )
