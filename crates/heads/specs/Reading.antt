-- The stages of reading a job: what is left to read from each of them on.
use Rattle.std.specs.Prelude.{ℕ, ◌+◌, List, [], ◌∷◌, map, drop}
use Rattle.definitions.specs.Lists.{bytes}
use Rattle.definitions.specs.Limits.{Limits}
use Rattle.definitions.specs.Text.{Reading, Reader, ◌>>=◌, ◌>>◌, return, first_of, due, line, lines, Result, and_then, unless, ended}
use Rattle.definitions.specs.Job.{Edge, Job, JobHead, job_head_rule, run_rule, delay_rule, edge_line, edge_rule, circular}

-- The job of a head, run times, delays and edges.
abbrev pub job_of : JobHead → List (List ℕ) → List (List ℕ) → List Edge → Job
job_of h runs delays edges =
    record {
      tasks = h.tasks;
      processors = h.processors;
      losses = h.losses;
      runs = runs;
      delays = delays;
      edges = edges;
    }

module _ (l : Limits) where
  -- From the E lines on.
  unfoldable pub from_edges : JobHead → List (List ℕ) → List (List ℕ) → Reader Job
  from_edges h runs delays = do
    edges ← lines (edge_line l) (edge_rule l h.tasks) h.edges []
    return (job_of h runs delays edges)

  -- From the D lines on.
  unfoldable pub from_delays : JobHead → List (List ℕ) → Reader Job
  from_delays h runs = do
    delays ← lines (line l (bytes "D,") (1 + h.processors)) (delay_rule l) h.processors []
    from_edges h runs (map (drop 1) delays)

  -- From the C lines on.
  unfoldable pub from_runs : JobHead → Reader Job
  from_runs h = do
    runs ← lines (line l (bytes "C,") (1 + h.processors)) (run_rule l) h.tasks []
    from_delays h (map (drop 1) runs)

  -- From the head's rule on.
  unfoldable pub from_head : JobHead → Reader Job
  from_head h = do
    due (job_head_rule l h)
    from_runs h

-- After the last line: a line left over (2), a circle (7).
unfoldable pub closed : Reading Job → Result Job
closed x = and_then (ended x) (λ j. unless (first_of ((circular j, 7) ∷ [])) j)
