-- The shape of a job that was read: a row of run times for each task and a row of delays for each processor, each with a
-- number for each processor; and how many cells it takes.
use Rattle.lists.proofs.Prelude.{◌≡◌, refl, ◌∙◌, sym, inl, inr, List, [], ◌∷◌, map, false, ℕ, suc, ◌+◌, ◌*◌, arith, suc-mul, zero-mul, length, drop, length-append, length-drop, length-map, bytes, In, Limits, found, first_of, line, ended, good, return, Job, JobHead, job_head_rule, run_rule, delay_rule, edge_line, edge_rule, circular, JobFacts}
use Rattle.definitions.specs.Text.{unless}
use Rattle.definitions.proofs.Lists.{in_map, passed}
use Rattle.definitions.proofs.Reading.{Ruled, ended_good, and_then_good, unless_good, lines_then, ruled_in, line_found, runs_found}
use Rattle.jobs.specs.Memory.{numbered}
use Rattle.heads.specs.Reading.{job_of, from_edges, from_delays, from_runs, closed}

-- Rows of m numbers each.
abbrev pub Wide : ℕ → List (List ℕ) → Type 0
Wide m rows = (r : List ℕ) → In r rows → length r ≡ m

pub record JobShape (j : Job) : Type 0 where
  pub runs_count : length j.runs ≡ j.tasks
  pub runs_wide : Wide j.processors j.runs
  pub delays_count : length j.delays ≡ j.processors
  pub delays_wide : Wide j.processors j.delays

rows_wide : (l : Limits) (opening : List ℕ) (m : ℕ) (rule : List (List ℕ) → List ℕ → ℕ) (rows : List (List ℕ)) → Ruled (line l opening (1 + m)) rule [] rows
    → Wide m (map (drop 1) rows)
rows_wide l opening m rule rows w r i =
    let (vs, k, e) = in_map (drop 1) r rows i in
    let (_, (s, t, f), _) = ruled_in (line l opening (1 + m)) rule [] rows w vs k in
    let n : length vs ≡ 1 + m = line_found l opening (1 + m) s vs t f in
    rw (← e) (omega (arith, length-drop 1 vs))

-- The job of a head has its numbers, and its shape.
runs_shape : (l : Limits) (h : JobHead) (s : List ℕ) (j : Job) (r : List ℕ) → from_runs l h s ≡ found j r
    → JobShape j × (j.tasks ≡ h.tasks) × (j.processors ≡ h.processors) × (length j.edges ≡ h.edges)
unfolding from_runs from_delays from_edges
runs_shape l h s j r g =
    let (runs, s2, cn, cw, g2) = lines_then (line l (bytes "C,") (1 + h.processors)) (run_rule l) h.tasks s (λ runs. from_delays l h (map (drop 1) runs)) j r g in
    let (delays, s3, dn, dw, g3) = lines_then (line l (bytes "D,") (1 + h.processors)) (delay_rule l) h.processors s2
    (λ delays. from_edges l h (map (drop 1) runs) (map (drop 1) delays)) j r g2 in
    let (es, s4, en, _, g4) = lines_then (edge_line l) (edge_rule l h.tasks) h.edges s3
    (λ es. return (job_of h (map (drop 1) runs) (map (drop 1) delays) es)) j r g3 in
    let e : j ≡ job_of h (map (drop 1) runs) (map (drop 1) delays) es = cc in
    rw e (
      record {
        runs_count = length-map runs (drop 1) ∙ cn;
        runs_wide = rows_wide l (bytes "C,") h.processors (run_rule l) runs cw;
        delays_count = length-map delays (drop 1) ∙ dn;
        delays_wide = rows_wide l (bytes "D,") h.processors (delay_rule l) delays dw;
      },
      refl,
      refl,
      en,
    )

-- So has the job of a head that has passed its rule, and of the text after it.
module _ (l : Limits) (h : JobHead) (s : List ℕ) (j : Job) (g : closed (from_runs l h s) ≡ good j) where
  closed_found : (from_runs l h s ≡ found j []) × (circular j ≡ false)
  unfolding closed
  closed_found =
      let (i, a, b) = and_then_good (ended (from_runs l h s)) (λ j. unless (first_of ((circular j, 7) ∷ [])) j) j g in
      let (z, e) = unless_good (first_of ((circular i, 7) ∷ [])) i j b in
      (rw e at (ended_good (from_runs l h s) i a), rw e at (passed (circular i) 6 [] z).0)

  pub closed_shape : JobShape j × (j.tasks ≡ h.tasks) × (j.processors ≡ h.processors) × (length j.edges ≡ h.edges)
  closed_shape = runs_shape l h s j [] closed_found.0

  pub closed_facts : job_head_rule l h ≡ 0 → JobFacts l j
  unfolding from_runs from_delays from_edges
  closed_facts z = runs_found l h s j [] z closed_found.0 closed_found.1

-- Cells -----------------------------------------------------------------------------------------------------------

pub numbered_count : (m k : ℕ) (rows : List (List ℕ)) → Wide m rows → length (numbered k rows) ≡ length rows * (1 + m)
unfolding numbered
numbered_count m k [] w = sym (zero-mul (1 + m))
numbered_count m k (r ∷ rows) w =
    let a : length r ≡ m = w r (inl refl) in
    let b = numbered_count m (suc k) rows (λ q i. w q (inr i)) in
    let c = suc-mul (length rows) (1 + m) in
    omega (arith, length-append r (numbered (suc k) rows))
