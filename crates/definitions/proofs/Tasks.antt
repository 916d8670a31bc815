-- Edges, lines and outcomes of a task.
use mathlib.Core.Path.{◌≡◌}
use mathlib.Core.Logic.{inl, inr, ⊎_elim}
use mathlib.Core.List.{List, [], ◌∷◌, ◌++◌, map, map-append}
use Prim.Native.Nat.{ℕ}
use lib.Dec.{eqb}
use borrow.Author.Tests.{eqb-true}
use Rattle.definitions.specs.Lists.{In}
use Rattle.definitions.specs.Job.{Edge, Job, incoming, outgoing}
use Rattle.definitions.specs.Plan.{Line, line_tasks}
use Rattle.definitions.specs.Facts.{LineFacts, Ordered}
use Rattle.definitions.specs.Times.{Outcome, of_task}
use Rattle.definitions.proofs.Lists.{in_append, append_left, append_right, in_keep}

pub in_incoming : (j : Job) (t : ℕ) (e : Edge) → In e (incoming j t) → In e j.edges × (e.to ≡ t)
unfolding incoming
in_incoming j t e i = let (k, q) = in_keep (λ e. eqb e.to t) e j.edges i in (k, eqb-true e.to t q)

pub in_outgoing : (j : Job) (t : ℕ) (e : Edge) → In e (outgoing j t) → In e j.edges × (e.from ≡ t)
unfolding outgoing
in_outgoing j t e i = let (k, q) = in_keep (λ e. eqb e.from t) e j.edges i in (k, eqb-true e.from t q)

pub in_task : (t : ℕ) (d : Outcome) (ds : List Outcome) → In d (of_task t ds) → In d ds × (d.task ≡ t)
unfolding of_task
in_task t d ds i = let (k, q) = in_keep (λ d. eqb d.task t) d ds i in (k, eqb-true d.task t q)

-- The tasks of outcomes.
abbrev pub outcome_tasks : List Outcome → List ℕ
outcome_tasks ds = map (λ d. d.task) ds

-- The tasks of the lines are those in ts.
abbrev pub SameTasks : List Line → List ℕ → Type 0
SameTasks ns ts = ((t : ℕ) → In t (line_tasks ns) → In t ts) × ((t : ℕ) → In t ts → In t (line_tasks ns))

-- One line more: it stands last among the lines, and its task first among the tasks.
pub tasks_more : (ns : List Line) (ts : List ℕ) (n : Line) → SameTasks ns ts → SameTasks (ns ++ n ∷ []) (n.task ∷ ts)
tasks_more ns ts n (to, back) =
    rw (map-append (λ n. n.task) ns (n ∷ [])) (
      λ t i. ⊎_elim (λ k. inr (to t k)) (⊎_elim inl absurd) (in_append t (line_tasks ns) (n.task ∷ []) i),
      λ t. ⊎_elim (λ k. append_right t (line_tasks ns) (n.task ∷ []) (inl k)) (λ i. append_left t (line_tasks ns) (n.task ∷ []) (back t i)),
    )

-- What is known of a line of several in order.
pub line_facts :
    (j : Job) (seen : List ℕ) (ns : List Line) → Ordered j seen ns → (n : Line) → In n ns
    → (before : List ℕ) × LineFacts j before n × ((t : ℕ) → In t seen → In t before)
line_facts j seen [] _ n x3 = elim x3 [ ]
line_facts j seen (m ∷ ns) (o, os) n (inl e) = (seen, rw (← e) o, λ t i. i)
line_facts j seen (m ∷ ns) (o, os) n (inr i) =
    let (before, f, g) = line_facts j (m.task ∷ seen) ns os n i in
    (before, f, λ t k. g t (inr k))
