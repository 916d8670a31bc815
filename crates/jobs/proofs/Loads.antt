-- A job that was loaded stands in the memory, and its links in theirs.
use Rattle.lists.proofs.Prelude.{◌≡◌, refl, ap, ◌∙◌, sym, List, true, false, ℕ, suc, ◌-◌, ◌<◌, ◌≤◌, arith, eq-eqb, ne_eqb, length, nth, Limits, Result, good, bad, Job, JobHead, job_head_rule, read_job}
use Rattle.text.specs.Suited.{Suited}
use Rattle.text.proofs.Refusals.{positive, handed}
use Rattle.std.specs.Prelude.{Result as Answer, Ok, Err, IsErrAnd}
use Rattle.text.specs.Numbers.{number_of}
use Rattle.text.specs.declared.refusal.Refusal.{Refusal}
use Rattle.heads.specs.Layout.{memory_size, links_room, FitsIn}
use Rattle.jobs.specs.Answers.{Loaded}
use Rattle.jobs.specs.Tables.{Tabled}
use Rattle.jobs.specs.Held.{job_in, JobHeld, LinksHeld}
use Rattle.heads.specs.Reading.{from_runs, from_head, closed}
use Rattle.heads.specs.Heads.{head_of, roomy}
use Rattle.jobs.specs.Loading.{job_from, JobLoaded}
use Rattle.heads.specs.declared.Opened.{Opened}
use Rattle.jobs.proofs.Held.{tasks_in_lem, processors_in, length_edges}
use Rattle.jobs.proofs.JobShape.{closed_shape}
use Rattle.jobs.proofs.JobIn.{loaded_in}
use Rattle.heads.proofs.Capacity.{roomy_made}

-- The rest of a job's text ----------------------------------------------------------------------------------------

module _ {l : Limits} (i : Suited l) (b : Tabled l) (capacity : ℕ) (h : JobHead) (s d links : List ℕ) (z : job_head_rule l h ≡ 0) (w : length d ≡ memory_size capacity) (f : FitsIn capacity h) where
  -- A job that was loaded fits as its head does.
  pub rest_loaded : (n : ℕ) → Loaded (closed (from_runs l h s)) d links (Ok n) → JobLoaded l capacity (closed (from_runs l h s)) d links (Ok tt)
  rest_loaded n a =
      let (g, facts, k) = loaded_in i h s d links n z a in
      let (_, t, p, e) = closed_shape l h s (job_in d) g in
      let v : nth d 0 ≡ h.tasks = sym (tasks_in_lem d) ∙ t in
      let m : nth d 1 ≡ h.processors = sym (processors_in d) ∙ p in
      let o : nth d 2 ≡ h.edges = sym (length_edges d) ∙ e in
      rw g (refl, refl, record { size = w; fits = rw (v, m, o) f; facts = facts; suited = i; tabled = b }, k)

-- A refusal is handed on, as by `?`.
pub job_loaded_err : (l : Limits) (capacity : ℕ) (x : Result Job) (mem links : List ℕ) (e : Refusal) (r : Answer (Unit {0}) Refusal) → IsErrAnd r (λ y. y ≡ e)
    → x ≡ bad (number_of e) → JobLoaded l capacity x mem links r
job_loaded_err l capacity x mem links e r h f = rw (f, handed r e h) refl

-- From the head on --------------------------------------------------------------------------------------------------

module _ (l : Limits) (capacity size links : ℕ) (h : JobHead) (s : List ℕ) where
  refused_by : (x : ℕ) → x ≡ job_head_rule l h → 0 < x → job_from l capacity size links h s ≡ bad x
  unfolding job_from closed from_head
  refused_by x f g = let o : x ≡ suc (x - 1) = omega (arith, g) in rw (← f, ne_eqb x 0 (λ e. omega (arith, e, g)), o)

  pub from_refused : (e : Refusal) → number_of e ≡ job_head_rule l h → job_from l capacity size links h s ≡ bad (number_of e)
  from_refused e f = refused_by (number_of e) f (positive e)

  module _ (z : job_head_rule l h ≡ 0) where
    pub from_short : roomy capacity size links h ≡ false → job_from l capacity size links h s ≡ bad 8
    unfolding job_from
    from_short e = rw (eq-eqb (job_head_rule l h) 0 z, e)

    pub from_room : roomy capacity size links h ≡ true → job_from l capacity size links h s ≡ closed (from_runs l h s)
    unfolding job_from from_head
    from_room e = rw (e, z)

-- The job of a text whose head was read, in a memory that it fits.
pub job_from_lem : (l : Limits) (s : List ℕ) (o : Opened) (capacity size links : ℕ)
    → (job_head_rule l (head_of o.head) ≡ 0) × (read_job l s ≡ closed (from_runs l (head_of o.head) o.rest.now)) → capacity ≤ 32 → FitsIn capacity (head_of o.head)
    → size ≡ memory_size capacity → links_room capacity ≤ links → job_from l capacity size links (head_of o.head) o.rest.now ≡ read_job l s
job_from_lem l s o capacity size links (z, q) most f w k =
    from_room l capacity size links (head_of o.head) o.rest.now z (roomy_made capacity size links (head_of o.head) most w k f) ∙ sym q

-- What was loaded -----------------------------------------------------------------------------------------------------

pub loaded_job : (l : Limits) (capacity : ℕ) (x : Result Job) (mem links : List ℕ) (u : Unit {0}) → JobLoaded l capacity x mem links (Ok u)
    → (x ≡ good (job_in mem)) × JobHeld l capacity mem × LinksHeld mem links
loaded_job l capacity (good j) mem links u (_, e, h, k) = (ap good (sym e), h, k)
loaded_job l capacity (bad k) mem links u e = absurd (let z : ◌≡◌ {A = ℕ} 0 1 = cc in omega arith)

pub refused_job : (l : Limits) (capacity : ℕ) (x : Result Job) (mem links : List ℕ) (e : Refusal) → JobLoaded l capacity x mem links (Err e) → x ≡ bad (number_of e)
refused_job l capacity (good j) mem links e (f, _, _, _) = absurd (let z : ◌≡◌ {A = ℕ} 0 1 = cc in omega arith)
refused_job l capacity (bad k) mem links e f = cc
