-- The stages from a job's head on are the whole job.
use Rattle.lists.proofs.Prelude.{◌≡◌, ap, ◌∙◌, List, ℕ, suc, ◌-◌, ◌<◌, ◌≤◌, arith, lt-ltb, le-ltb, length, take, get_or-take, bytes, Limits}
use Rattle.lists.proofs.Prelude.{next, due, line, bad, JobHead, job_head_of, job_head_rule, read_job}
use Rattle.definitions.specs.Job.{job_head, job_lines}
use Rattle.std.specs.Prelude.{Result, Ok, Err}
use Rattle.text.specs.Numbers.{number_of}
use Rattle.text.specs.Meaning.{reading, due_of}
use Rattle.text.specs.declared.refusal.Refusal.{Refusal}
use Rattle.text.proofs.Refusals.{positive}
use Rattle.heads.specs.Reading.{from_edges, from_delays, from_runs, from_head, closed}

module _ (l : Limits) (s : List ℕ) where
  pub job_long : l.text_length < length s → read_job l s ≡ bad 1
  unfolding read_job
  job_long h = rw (lt-ltb _ _ h)

  -- The head's line was read, with the answer r: its numbers stand at the front of ys, and the text t is left.
  module _ (h : length s ≤ l.text_length) (t ys : List ℕ) (r : Result (Unit {0}) Refusal) (e : reading t (take 4 ys) r ≡ line l (bytes "JOB,") 4 s) where
    pub job_no : (x : Refusal) → r ≡ Err x → read_job l s ≡ bad (number_of x)
    unfolding read_job job_lines job_head
    job_no x f = rw (le-ltb _ _ h, ← e, f)

    -- The rule of the head gave the answer x.
    module _ (u : Unit {0}) (f : r ≡ Ok u) (x : Result (Unit {0}) Refusal) (g : due_of x ≡ job_head_rule l (job_head_of ys)) where
      same_head : job_head_of (take 4 ys) ≡ job_head_of ys
      same_head = rw (get_or-take 4 ys 0 0 (omega arith), get_or-take 4 ys 1 0 (omega arith), get_or-take 4 ys 2 0 (omega arith), get_or-take 4 ys 3 0 (omega arith))

      job_open : read_job l s ≡ closed (from_head l (job_head_of (take 4 ys)) t)
      unfolding read_job job_lines job_head closed from_head from_runs from_delays from_edges
      job_open = rw (le-ltb _ _ h, ← e, f)

      job_headed : read_job l s ≡ closed (next (due (due_of x) t) (λ _. from_runs l (job_head_of ys)))
      unfolding from_head
      job_headed = job_open ∙ ap (λ (h : JobHead). closed (from_head l h t)) same_head ∙ rw (← g)

      pub job_refused : (y : Refusal) → x ≡ Err y → read_job l s ≡ bad (number_of y)
      unfolding closed
      job_refused y k = let o : number_of y ≡ suc (number_of y - 1) = omega (arith, positive y) in rw (job_headed, k, o)

      pub job_next : (w : Unit {0}) → x ≡ Ok w → (job_head_rule l (job_head_of ys) ≡ 0) × (read_job l s ≡ closed (from_runs l (job_head_of ys) t))
      job_next w k = (rw (← g, k), rw (job_headed, k))
