-- A job and a plan that were read into one memory, from step to step.
use Rattle.lists.proofs.Prelude.{◌≡◌, refl, ap, List, ℕ, arith, nth, Limits, Result, good, bad, and_then, Job, Plan, read_plan}
use Rattle.definitions.specs.Facts.{PlanFacts}
use Rattle.definitions.proofs.Reading.{and_then_good, plan_facts}
use Rattle.std.specs.Prelude.{Ok, Err}
use Rattle.std.specs.Prelude as Rust
use Rattle.text.specs.Numbers.{number_of}
use Rattle.text.specs.declared.refusal.Refusal.{Refusal}
use Rattle.heads.specs.Layout.{line_at, largest_delay_at}
use Rattle.jobs.specs.Held.{job_in, JobHeld, LinksHeld}
use Rattle.jobs.specs.Loading.{JobLoaded}
use Rattle.lists.specs.Kept.{KeptOutside}
use Rattle.plans.specs.Lines.{LinesHeld}
use Rattle.plans.specs.Loading.{plan_in, PlanLoaded, PlanHeld, with_plan, BothLoaded}
use Rattle.jobs.proofs.Held.{job_kept, links_kept}
use Rattle.jobs.proofs.Loads.{loaded_job, refused_job}

-- Reading -------------------------------------------------------------------------------------------------------------

-- Where the job is refused, both are.
pub none_read : (l : Limits) (x : Result Job) (plan : List ℕ) (n : ℕ) → x ≡ bad n → with_plan l x plan ≡ bad n
unfolding with_plan
none_read l x plan n h = rw h

module _ (l : Limits) (capacity : ℕ) (x : Result Job) (plan d links : List ℕ) where
  pub no_job : (e : Refusal) → JobLoaded l capacity x d links (Err e) → BothLoaded l capacity (with_plan l x plan) d links (Err e)
  no_job e h = rw (none_read l x plan (number_of e) (refused_job l capacity x d links e h)) refl

  -- The job was read, and its edges were linked.
  module _ (u : Unit {0}) (h : JobLoaded l capacity x d links (Ok u)) where
    pub job_standing : JobHeld l capacity d × LinksHeld d links
    job_standing = let (_, j, i) = loaded_job l capacity x d links u h in (j, i)

    -- So was the plan.
    pub both_loaded : (f : List ℕ) (r : Rust.Result (Unit {0}) Refusal) → KeptOutside (line_at capacity) (largest_delay_at capacity) d f → PlanLoaded l capacity (read_plan l (job_in d) plan) f r
        → BothLoaded l capacity (with_plan l x plan) f links r
    unfolding with_plan
    both_loaded f r c g = rw (loaded_job l capacity x d links u h).0 (by (read_plan l (job_in d) plan) g)
      where
        by : (y : Result Plan) → PlanLoaded l capacity y f r → BothLoaded l capacity (and_then y (λ p. good (job_in d, p))) f links r
        by (good p) (a, b, s) =
            let (_, j, i) = loaded_job l capacity x d links u h in
            (a, job_kept j c (omega arith), b, s, links_kept j c (omega arith) i)
        by (bad k) g = g

-- What was read -------------------------------------------------------------------------------------------------------

module _ (l : Limits) (capacity : ℕ) (mem links : List ℕ) where
  pub both_no : (x : Result (Job × Plan)) (r : Refusal) → BothLoaded l capacity x mem links (Err r) → x ≡ bad (number_of r)
  both_no (good (j, p)) r (e, _, _, _, _) = absurd (let z : ◌≡◌ {A = ℕ} 0 1 = cc in omega arith)
  both_no (bad k) r e = cc

  pub both_next : (x : Result (Job × Plan)) (u : Unit {0}) → BothLoaded l capacity x mem links (Ok u) → (x ≡ good (job_in mem, plan_in capacity mem)) × LinesHeld l capacity (nth mem 0) mem × LinksHeld mem links
  both_next (good (j, p)) u (_, e, f, s, i) = (rw (e, f), s, i)
  both_next (bad k) u e = absurd (let z : ◌≡◌ {A = ℕ} 0 1 = cc in omega arith)

both_facts : (l : Limits) (x : Result Job) (plan : List ℕ) (j : Job) (p : Plan) → with_plan l x plan ≡ good (j, p) → PlanFacts l j p
unfolding with_plan
both_facts l x plan j p h =
    let (i, _, f) = and_then_good x (λ j. and_then (read_plan l j plan) (λ p. good (j, p))) (j, p) h in
    let (q, g, e) = and_then_good (read_plan l i plan) (λ p. good (i, p)) (j, p) f in
    let w : ◌≡◌ {A = Job × Plan} (i, q) (j, p) = cc in
    by i q g (ap (λ (x : Job × Plan). x.0) w) (ap (λ (x : Job × Plan). x.1) w)
  where
    by : (i : Job) (q : Plan) → read_plan l i plan ≡ good q → i ≡ j → q ≡ p → PlanFacts l j p
    by i q g a b = plan_facts l j plan p (rw (a, b) at g)

-- Both stand in the memory.
pub both_held : (l : Limits) (capacity : ℕ) (x : Result Job) (plan mem links : List ℕ) (u : Unit {0}) → BothLoaded l capacity (with_plan l x plan) mem links (Ok u)
    → PlanHeld l capacity mem × LinksHeld mem links
both_held l capacity x plan mem links u h =
    let (e, s, i) = both_next l capacity mem links (with_plan l x plan) u h in
    (record { standing = s; facts = both_facts l x plan (job_in mem) (plan_in capacity mem) e }, i)
