-- A plan: what its text says, read (1, 2, 3, 9, 11, 10) and printed.
use Rattle.std.specs.Prelude.{ℕ, ◌+◌, ◌*◌, List, [], ◌∷◌, ◌++◌, map, Bool, false, not, ◌&&◌, ◌||◌, ltb, eqb, drop}
use Rattle.definitions.specs.Lists.{bytes, nth, any, all, has}
use Rattle.definitions.specs.Limits.{Limits}
use Rattle.definitions.specs.Text.{Reader, ◌>>=◌, ◌>>◌, return, first_of, due, line, lines, line_text, Result, whole}
use Rattle.definitions.specs.Job.{Job, incoming, outside}

-- A replica ("copy") of a line's task: its processor and its early and late finish ticks.
pub record Replica : Type 0 where
  pub processor : ℕ
  pub early : ℕ
  pub late : ℕ

-- `T,task,` and ε + 1 triples box, early, late.
pub record Line : Type 0 where
  pub task : ℕ
  pub replicas : List Replica

-- A plan. lower is M*, upper is M, the bounds on the makespan; line order is the order in which every processor takes up its replicas.
pub record Plan : Type 0 where
  pub lower : ℕ
  pub upper : ℕ
  pub lines : List Line

-- A line's processors, in written order.
abbrev pub processors_of : Line → List ℕ
processors_of n = map (λ r. r.processor) n.replicas

-- The tasks of lines.
abbrev pub line_tasks : List Line → List ℕ
line_tasks ns = map (λ n. n.task) ns

-- Triples box, early, late.
unfoldable pub triples : List ℕ → List Replica
triples [] = []
triples (p ∷ []) = []
triples (p ∷ e ∷ []) = []
triples (p ∷ e ∷ x ∷ vs) = record { processor = p; early = e; late = x } ∷ triples vs

-- The numbers of a T line, in order.
abbrev pub line_of : List ℕ → Line
line_of vs = record { task = nth vs 0; replicas = triples (drop 1 vs) }

-- "Within a T line a box is less than the one before" (11).
unfoldable pub descends : List ℕ → Bool
descends [] = false
descends (p ∷ []) = false
descends (p ∷ q ∷ ps) = let later = descends (q ∷ ps) in ltb q p || later

-- `PLAN,v,m,ε,M*,M`: the numbers of a plan's head.
pub record PlanHead : Type 0 where
  pub tasks : ℕ
  pub processors : ℕ
  pub losses : ℕ
  pub lower : ℕ
  pub upper : ℕ

-- The numbers of a head, in order.
abbrev pub plan_head_of : List ℕ → PlanHead
plan_head_of vs = record { tasks = nth vs 0; processors = nth vs 1; losses = nth vs 2; lower = nth vs 3; upper = nth vs 4 }

-- The numbers of a line's triples.
unfoldable pub replica_numbers : List Replica → List ℕ
replica_numbers [] = []
replica_numbers (r ∷ rs) = r.processor ∷ r.early ∷ r.late ∷ replica_numbers rs

module _ (l : Limits) where
  -- A head is known by its fixed opening bytes, here PLAN and a comma.
  unfoldable pub plan_head : Reader PlanHead
  plan_head = do
    vs ← line l (bytes "PLAN,") 5
    return (plan_head_of vs)

  -- "v, m and ε have the job's ranges", M* and M are 0..4,294,967,295 (3); "v, m or ε of the plan differ from the job's" (9).
  unfoldable pub plan_head_rule : Job → PlanHead → ℕ
  plan_head_rule j h =
      first_of
      ((
        outside 1 l.tasks h.tasks || outside 1 l.processors h.processors
            || outside 0 l.losses h.losses
            || outside 0 l.tick h.lower
            || outside 0 l.tick h.upper,
        3,
      )
      ∷ (not (eqb h.tasks j.tasks && eqb h.processors j.processors && eqb h.losses j.losses), 9)
      ∷ []
      )

  -- "A number outside its range; a task ≥ v or box ≥ m" (3).
  unfoldable pub strays : Job → Line → Bool
  strays j n =
      not (ltb n.task j.tasks)
      || any (λ r. not (ltb r.processor j.processors) || outside 0 l.tick r.early || outside 0 l.tick r.late) n.replicas

  -- `T,task,` and ε + 1 triples.
  unfoldable pub plan_line : Job → Reader Line
  plan_line j = do
    vs ← line l (bytes "T,") (1 + 3 * (1 + j.losses))
    return (line_of vs)

  -- "A T line 11, then 10": it "repeats a task, or precedes a predecessor of its task" (10).
  unfoldable pub plan_line_rule : Job → List Line → Line → ℕ
  plan_line_rule j seen n =
      let tasks = line_tasks seen in
      first_of
      (
      (strays j n, 3)
      ∷ (descends (processors_of n), 11)
      ∷ (has n.task tasks || not (all (λ e. has e.from tasks) (incoming j n.task)), 10)
      ∷ []
      )

  -- "A plan": the head, then v T lines.
  unfoldable pub plan_lines : Job → Reader Plan
  plan_lines j = do
    h ← plan_head
    due (plan_head_rule j h)
    ns ← lines (plan_line j) (plan_line_rule j) j.tasks []
    return (record { lower = h.lower; upper = h.upper; lines = ns })

  -- A plan's text, for a job.
  unfoldable pub read_plan : Job → List ℕ → Result Plan
  read_plan j s = whole l (plan_lines j) s

  -- The T lines as they are printed.
  unfoldable pub plan_lines_text : List Line → List ℕ
  plan_lines_text [] = []
  plan_lines_text (n ∷ ns) = line_text l (bytes "T,") (n.task ∷ replica_numbers n.replicas) ++ plan_lines_text ns

  -- A plan as it is printed.
  unfoldable pub plan_text : Job → Plan → List ℕ
  plan_text j p =
      line_text l (bytes "PLAN,") (j.tasks ∷ j.processors ∷ j.losses ∷ p.lower ∷ p.upper ∷ []) ++ plan_lines_text p.lines
