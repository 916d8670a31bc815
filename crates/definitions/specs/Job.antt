-- A job: what its text says, and the numbers 1 to 7 and 16.
use Rattle.std.specs.Prelude.{ℕ, zero, suc, ◌+◌, ◌≡◌, Bool, true, false, not, ◌&&◌, ◌||◌, ltb, eqb, length, get_or, drop}
use mathlib.Core.List.{List, [], ◌∷◌, map, get_last?}
use Rattle.std.proofs.Math.Option.{Option, none, some}
use Rattle.definitions.specs.Lists.{bytes, nth, below, keep, any, In, has, empty}
use Rattle.definitions.specs.Limits.{Limits}
use Rattle.definitions.specs.Text.{Reader, ◌>>=◌, ◌>>◌, return, first_of, due, line, lines, Result, and_then, unless, whole}

-- An edge: `E,from,to,volume`.
pub record Edge : Type 0 where
  pub from : ℕ
  pub to : ℕ
  pub volume : ℕ

-- A job. Tasks and processors ("boxes") are numbered from 0; losses is ε. runs has a row for each task, with a run
-- time for each processor; delays has a row for each sending processor, with a delay for each receiving one.
pub record Job : Type 0 where
  pub tasks : ℕ
  pub processors : ℕ
  pub losses : ℕ
  pub runs : List (List ℕ)
  pub delays : List (List ℕ)
  pub edges : List Edge

-- The run time of task t on processor p: "`C,task,` and m run times".
unfoldable pub run_time : Job → ℕ → ℕ → ℕ
run_time j t p = nth (get_or j.runs t []) p

-- "Ticks per unit of data, from that box to boxes 0..m−1": from processor p to processor q.
unfoldable pub delay : Job → ℕ → ℕ → ℕ
delay j p q = nth (get_or j.delays p []) q

-- The edges that enter task t, from its predecessors.
unfoldable pub incoming : Job → ℕ → List Edge
incoming j t = keep (λ e. eqb e.to t) j.edges

-- The edges that leave task t, to its successors.
unfoldable pub outgoing : Job → ℕ → List Edge
outgoing j t = keep (λ e. eqb e.from t) j.edges

-- "A number outside its range".
abbrev pub outside : ℕ → ℕ → ℕ → Bool
outside low high n = ltb n low || ltb high n

-- `JOB,v,m,e,ε`: the numbers of a job's head.
pub record JobHead : Type 0 where
  pub tasks : ℕ
  pub processors : ℕ
  pub edges : ℕ
  pub losses : ℕ

-- The numbers of a head, in order.
abbrev pub job_head_of : List ℕ → JobHead
job_head_of vs = record { tasks = nth vs 0; processors = nth vs 1; edges = nth vs 2; losses = nth vs 3 }

-- The numbers of an edge line, in order.
abbrev pub edge_of : List ℕ → Edge
edge_of vs = record { from = nth vs 0; to = nth vs 1; volume = nth vs 2 }

-- Two edges have the same "from-to pair".
abbrev pub same_pair : Edge → Edge → Bool
same_pair d e = eqb d.from e.from && eqb d.to e.to

-- "By from, then by to": the pair of d is smaller than that of e.
abbrev pub smaller : Edge → Edge → Bool
smaller d e = ltb d.from e.from || (eqb d.from e.from && ltb d.to e.to)

-- "An edge line smaller than the one before", if there is one before (16).
abbrev pub smaller_than_last : Option Edge → Edge → Bool
smaller_than_last none e = false
smaller_than_last (some d) e = smaller e d

-- The rules between an edge and those before it: "an edge from a task to itself, or a from-to pair that an earlier line has" (6);
-- "an edge line smaller than the one before, tried after 6 on the same line" (16).
unfoldable pub edge_order : List Edge → Edge → List (Bool × ℕ)
edge_order seen e =
    (eqb e.from e.to || any (λ d. same_pair d e) seen, 6)
    ∷ (smaller_than_last (get_last? seen) e, 16)
    ∷ []

-- "Edge lines must now ascend": each is smaller than all after it.
abbrev pub Ascends : List Edge → Type 0
Ascends [] = Unit {0}
Ascends (d ∷ es) = ((e : Edge) → In e es → smaller d e ≡ true) × Ascends es

-- What is left of some tasks when those that none of them precedes are taken away.
unfoldable pub preceded : List Edge → List ℕ → List ℕ
preceded es ts = keep (λ t. any (λ e. eqb e.to t && has e.from ts) es) ts

-- What is left when this is done n times.
unfoldable pub remaining : ℕ → List Edge → List ℕ → List ℕ
remaining zero es ts = ts
remaining (suc n) es ts = remaining n es (preceded es ts)

-- "The edges form a circle" (7): of all tasks some are left, though this is done as often as there are tasks.
-- proofs/Circle.antt proves that this is so exactly if there is a Circle.
unfoldable pub circular : Job → Bool
circular j = not (empty (remaining j.tasks j.edges (below j.tasks)))

-- A path from a to b: edges, one or more, each beginning where the one before it ends.
pub data Path (es : List Edge) : ℕ → ℕ → Type 0 where
  one : {a b : ℕ} (e : Edge) → In e es → e.from ≡ a → e.to ≡ b → Path es a b
  more : {a b c : ℕ} → Path es a b → (e : Edge) → In e es → e.from ≡ b → e.to ≡ c → Path es a c

-- A circle: a path from a task to itself.
abbrev pub Circle : Job → Type 0
Circle j = (t : ℕ) × Path j.edges t t

module _ (l : Limits) where
  -- A head is known by its fixed opening bytes, here JOB and a comma.
  unfoldable pub job_head : Reader JobHead
  job_head = do
    vs ← line l (bytes "JOB,") 4
    return (job_head_of vs)

  -- `JOB,v,m,e,ε`: tasks v 1..255, boxes m 1..16, edges e 0..1,024, losses ε 0..7 (3), with ε + 1 ≤ m (4).
  unfoldable pub job_head_rule : JobHead → ℕ
  job_head_rule h =
      first_of
      ((
        outside 1 l.tasks h.tasks || outside 1 l.processors h.processors
            || outside 0 l.edges h.edges
            || outside 0 l.losses h.losses,
        3,
      )
      ∷ (ltb h.processors (h.losses + 1), 4) ∷ []
      )

  -- `C,task,` and m run times, each 1..1,000,000 (3); tasks 0, 1, 2 and on, else out of turn (2).
  unfoldable pub run_rule : List (List ℕ) → List ℕ → ℕ
  run_rule seen vs = first_of ((not (eqb (nth vs 0) (length seen)), 2) ∷ (any (outside 1 l.run_time) (drop 1 vs), 3) ∷ [])

  -- `D,box,` and m delays, each 0..255 (3); boxes 0, 1, 2 and on (2). The delay to itself is 0 (5).
  unfoldable pub delay_rule : List (List ℕ) → List ℕ → ℕ
  delay_rule seen vs =
      first_of
      (
      (not (eqb (nth vs 0) (length seen)), 2)
      ∷ (any (outside 0 l.delay) (drop 1 vs), 3)
      ∷ (not (eqb (nth vs (1 + length seen)) 0), 5)
      ∷ []
      )

  -- `E,from,to,volume`
  unfoldable pub edge_line : Reader Edge
  edge_line = do
    vs ← line l (bytes "E,") 3
    return (edge_of vs)

  -- "A task ≥ v", volume 0..4,095 (3); then the rules between it and the edges before it (6, 16).
  unfoldable pub edge_rule : ℕ → List Edge → Edge → ℕ
  edge_rule tasks seen e =
      first_of ((not (ltb e.from tasks) || not (ltb e.to tasks) || outside 0 l.volume e.volume, 3) ∷ edge_order seen e)

  -- "A job, in this order": the head, v C lines, m D lines, e E lines.
  unfoldable pub job_lines : Reader Job
  job_lines = do
    h ← job_head
    due (job_head_rule h)
    runs ← lines (line l (bytes "C,") (1 + h.processors)) run_rule h.tasks []
    delays ← lines (line l (bytes "D,") (1 + h.processors)) delay_rule h.processors []
    edges ← lines edge_line (edge_rule h.tasks) h.edges []
    return (record {
      tasks = h.tasks;
      processors = h.processors;
      losses = h.losses;
      runs = map (drop 1) runs;
      delays = map (drop 1) delays;
      edges = edges;
    })

  -- A job's text. "After the job's last line: 7".
  unfoldable pub read_job : List ℕ → Result Job
  read_job s = and_then (whole l job_lines s) (λ j. unless (first_of ((circular j, 7) ∷ [])) j)
