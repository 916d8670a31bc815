-- The R lines and the L line, one after another.
use Rattle.lists.proofs.Prelude.{◌≡◌, refl, ap, sym, ⊎_elim, List, [], ◌++◌, ℕ, ◌+◌, ◌-◌, min, length, nth, count_from, below, Limits, Time, least, makespan, replay_makespan, result_line, result_lines, end_line, replay_text}
use borrow.Rule.Slice.PartMut.{put_mid, mid_of}
use Rattle.lists.proofs.Upward.{below_more}
use Rattle.text.specs.Meaning.{written}
use Rattle.printing.specs.Rendered.{Rendered}
use Rattle.printing.proofs.Rendering.{rendered_more, lent_written}
use Rattle.jobs.specs.Held.{job_in}
use Rattle.ticks.specs.Cells.{never_cell, time_in}
use Rattle.rounds.specs.Replaying.{outcomes_in, FirstIn}
use Rattle.rounds.specs.Texts.{task_line}
use Rattle.lists.proofs.ListLaws.{joined_last}
use Rattle.lists.proofs.Counting.{equal_or_not}

-- All lines ------------------------------------------------------------------------------------------------------------

pub task_line_lem : (lim : Limits) {capacity t x p : ℕ} {mem : List ℕ} → FirstIn capacity t x p mem → task_line lim capacity t mem ≡ result_line lim t (time_in x) p
unfolding task_line
task_line_lem lim {t} {x} {p} f =
    ⊎_elim
    (λ (e : x ≡ never_cell). rw (← f.finish, e))
    (λ n. rw (← f.finish, ← f.lowest_on n))
    (equal_or_not x never_cell)

-- The R lines of the first k tasks.
abbrev pub task_lines : Limits → ℕ → ℕ → List ℕ → List ℕ
task_lines lim capacity k mem = result_lines lim (below k) (outcomes_in capacity mem)

module _ (lim : Limits) (capacity : ℕ) (mem : List ℕ) where
  pub tasks_none : task_lines lim capacity 0 mem ≡ []
  unfolding result_lines count_from
  tasks_none = refl

  pub tasks_next : (k : ℕ) → task_lines lim capacity (k + 1) mem ≡ task_lines lim capacity k mem ++ task_line lim capacity k mem
  unfolding task_line result_lines
  tasks_next k =
      rw (below_more k) (joined_last (λ ts. result_lines lim ts (outcomes_in capacity mem)) (λ t. task_line lim capacity t mem) refl (λ t ts. refl) (below k) k)

  -- The L line comes last.
  replay_text_lem : (x : ℕ) → time_in x ≡ makespan (job_in mem) least (outcomes_in capacity mem)
      → replay_text lim (job_in mem) (outcomes_in capacity mem) ≡ task_lines lim capacity (nth mem 0) mem ++ end_line lim (time_in x)
  unfolding replay_text replay_makespan job_in
  replay_text_lem x e = ap (λ (y : Time). task_lines lim capacity (nth mem 0) mem ++ end_line lim y) (sym e)

  -- It was rendered behind the R lines.
  pub replay_rendered : (x : ℕ) → time_in x ≡ makespan (job_in mem) least (outcomes_in capacity mem) → {d y : List ℕ} {at : ℕ} → Rendered (task_lines lim capacity (nth mem 0) mem) d y at
      → (p n : ℕ) (ys : List ℕ) → p ≡ min at (length y) → n ≡ length (end_line lim (time_in x)) → ys ≡ written (mid_of p (length y - p) y) 0 (end_line lim (time_in x))
      → Rendered (replay_text lim (job_in mem) (outcomes_in capacity mem)) d (put_mid p (length y - p) y ys) (at + n)
  replay_rendered x e {d} {y} {at} r p n ys f g h =
      rw (replay_text_lem x e) (rendered_more r (end_line lim (time_in x)) _ (at + n) (ap (at +◌) g) (lent_written y at p (end_line lim (time_in x)) ys f h))
