-- What the answer of the reader of jobs says, and the public answer that is made of it.
use Rattle.lists.proofs.Prelude.{◌≡◌, refl, ap, List, map, ℕ, ◌<◌, ◌≤◌, arith, lt-ltb, le-ltb, length, take, length-take, Result, good, bad, Job}
use Rattle.lists.specs.Over.{over}
use Rattle.std.specs.Prelude.{Result as Answer, Ok, Err, IsErrAnd}
use Rattle.text.proofs.Refusals.{handed}
use Rattle.text.specs.Numbers.{number_of}
use Rattle.text.specs.declared.refusal.Refusal.{Refusal}
use Rattle.text.specs.declared.refusal.Refusal.TheVariants.{NoRoom}
use Rattle.orders.specs.Edges.{edge_cell}
use Rattle.orders.specs.Links.{Linked}
use Rattle.jobs.specs.Memory.{job_cells}
use Rattle.jobs.specs.Answers.{Answered, Loaded, cells_answer}

-- The job's text was refused, or gave a job.
pub loaded_no : (x : Result Job) (mem links : List ℕ) (r : Refusal) → Loaded x mem links (Err r) → x ≡ bad (number_of r)
loaded_no (good j) mem links r (e, _, _) = absurd (let z : ◌≡◌ {A = ℕ} 0 1 = cc in omega arith)
loaded_no (bad k) mem links r e = cc

pub loaded_next : (x : Result Job) (mem links : List ℕ) (n : ℕ) → Loaded x mem links (Ok n)
    → (j : Job) × (x ≡ good j) × (n ≡ length (job_cells j)) × (take n mem ≡ job_cells j) × Linked j.tasks (map edge_cell j.edges) links
loaded_next (good j) mem links n (e, f, k) = let l : n ≡ length (job_cells j) = cc in (j, refl, l, rw l f, k)
loaded_next (bad k) mem links n e = absurd (let z : ◌≡◌ {A = ℕ} 0 1 = cc in omega arith)

-- A refusal is handed on, as by `?`.
pub loaded_err : (x : Result Job) (mem links : List ℕ) (e : Refusal) (r : Answer ℕ Refusal) → IsErrAnd r (λ y. y ≡ e) → x ≡ bad (number_of e) → Loaded x mem links r
loaded_err x mem links e r h f = rw (f, handed r e h) refl

-- The cells of a job that was loaded stand in the memory.
pub loaded_fits : (x : Result Job) (mem links : List ℕ) (n : ℕ) → Loaded x mem links (Ok n) → n ≤ length mem
loaded_fits x mem links n h = let (j, _, l, f, _) = loaded_next x mem links n h in omega (arith, length-take n mem, ap length f)

-- A refusal leaves the cells as they were.
pub answered_err : (x : Result (List ℕ)) (d : List ℕ) (e : Refusal) (r : Answer ℕ Refusal) → IsErrAnd r (λ y. y ≡ e) → x ≡ bad (number_of e) → Answered x d d r
answered_err x d e r h f = rw (handed r e h, f) (refl, refl)

module _ (x : Result Job) (d : List ℕ) (n : ℕ) (mem links : List ℕ) (h : Loaded x mem links (Ok n)) where
  pub answer_short : length d < n → Answered (cells_answer x (length d)) d d (Err NoRoom)
  answer_short g =
      let (j, e, k, _, _) = loaded_next x mem links n h in
      rw (e, ← k, lt-ltb (length d) n g) (refl, refl)

  pub answer_done : n ≤ length d → Answered (cells_answer x (length d)) d (over d 0 (take n mem)) (Ok n)
  answer_done g =
      let (j, e, k, f, _) = loaded_next x mem links n h in
      rw (e, ← k, le-ltb (length d) n g, f) (ap good k, refl)
