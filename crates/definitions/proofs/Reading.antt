-- What is known of a plan, a job and a stop list that were read.
use Rattle.std.specs.Prelude.{if◌then◌else◌}
use mathlib.Core.Path.{◌≡◌, refl, ap, ◌∙◌}
use mathlib.Core.Logic.{inl, inr}
use mathlib.Core.List.{List, [], ◌∷◌, ◌++◌, map, append_assoc, append-nil, get_last?}
use mathlib.Core.Option.{Option, none, some}
use mathlib.Core.Bool.{Bool, true, false, not, ◌||◌}
use Prim.Native.Nat.{ℕ, zero, suc, ◌+◌, ◌*◌, ◌<◌, ◌≤◌}
use native.Mathlib.Omega.{arith}
use lib.Dec.{ltb}
use lib.ListN.{length, get_or, drop, length-append, length-drop, get_or-map}
use lib.Seq.{get_or-drop}
use borrow.Author.Tests.{eqb-true, ltb-true, ltb-false, leb-false, not-false}
use Rattle.definitions.specs.Lists.{bytes, nth, In, any, all, has}
use Rattle.definitions.specs.Limits.{Limits}
use Rattle.definitions.specs.Text.{Reading, found, refused, Reader, next, return, due, first_of, exactly, number, numbers, line, mark, lines, lines_to_end, Result, good, bad, and_then, unless, ended, whole}
use Rattle.definitions.specs.Job.{Edge, Job, run_time, delay, incoming, circular, outside, JobHead, job_head, job_head_rule, run_rule, delay_rule, edge_line, edge_rule, Ascends, job_lines, read_job}
use Rattle.definitions.specs.Plan.{Replica, Line, Plan, processors_of, triples, line_of, descends, PlanHead, plan_head, plan_head_rule, strays, plan_line, plan_line_rule, plan_lines, read_plan, line_tasks}
use Rattle.definitions.specs.Stops.{Stop, not_after, stop_line, stop_rule, read_stops}
use Rattle.definitions.proofs.Lists.{neither, inside, passed, last_of, none_in, all_in, has_in, not_has, in_map, nth_in}
use Rattle.definitions.specs.Facts.{JobFacts, LineFacts, Ordered, Ticks, PlanFacts, Ascending, after_last}
use Rattle.definitions.proofs.EdgeOrder.{ascends_more}
use Rattle.definitions.proofs.Tasks.{SameTasks, tasks_more}

-- One thing after another ---------------------------------------------------------------------------------------

pub refused≢found : {A : Type 0} {n : ℕ} {a : A} {r : List ℕ} → refused n ≡ found a r → ⊥
refused≢found h = let z : ◌≡◌ {A = ℕ} 0 1 = cc in omega arith

bad≢good : {A : Type 0} {n : ℕ} {a : A} → bad n ≡ good a → ⊥
bad≢good h = let z : ◌≡◌ {A = ℕ} 0 1 = cc in omega arith

-- Where something was found, each part was found.
pub next_found : {A B : Type 0} (x : Reading A) (f : A → Reader B) (b : B) (r : List ℕ) → next x f ≡ found b r
    → (a : A) × (s : List ℕ) × (x ≡ found a s) × (f a s ≡ found b r)
next_found (found a s) f b r h = (a, s, refl, h)
next_found (refused n) f b r h = absurd (refused≢found h)

pub due_found : {A : Type 0} (n : ℕ) (q : Reader A) (s : List ℕ) (a : A) (r : List ℕ) → next (due n s) (λ _. q) ≡ found a r → (n ≡ 0) × (q s ≡ found a r)
due_found zero q s a r h = (refl, h)
due_found (suc n) q s a r h = absurd (refused≢found h)

-- A line that was found passed its rule.
pub rule_found : {A B : Type 0} (x : Reading A) (rule : A → ℕ) (f : A → Reader B) (b : B) (r : List ℕ)
    → next x (λ a s. next (due (rule a) s) (λ _. f a)) ≡ found b r
    → (a : A) × (s : List ℕ) × (x ≡ found a s) × (rule a ≡ 0) × (f a s ≡ found b r)
rule_found x rule f b r h =
    let (a, s, e, g) = next_found x (λ a s. next (due (rule a) s) (λ _. f a)) b r h in
    let (z, g') = due_found (rule a) (f a) s b r g in
    (a, s, e, z, g')

-- What is good at its end was found with nothing left over.
pub ended_good : {A : Type 0} (x : Reading A) (a : A) → ended x ≡ good a → x ≡ found a []
ended_good (found c []) a h = cc
ended_good (found c (d ∷ r)) a h = absurd (bad≢good h)
ended_good (refused n) a h = absurd (bad≢good h)

pub whole_good : {A : Type 0} (l : Limits) (q : Reader A) (s : List ℕ) (a : A) → whole l q s ≡ good a → q s ≡ found a []
whole_good {A} l q s a h = by (ltb l.text_length (length s)) (q s) h
  where
    by : (b : Bool) (x : Reading A) → (if b then bad 1 else ended x) ≡ good a → x ≡ found a []
    by true x h = absurd (bad≢good h)
    by false x h = ended_good x a h

-- Where two texts are good, each is.
pub and_then_good : {A B : Type 0} (x : Result A) (f : A → Result B) (b : B) → and_then x f ≡ good b → (a : A) × (x ≡ good a) × (f a ≡ good b)
and_then_good (good a) f b h = (a, refl, h)
and_then_good (bad n) f b h = absurd (bad≢good h)

pub unless_good : {A : Type 0} (n : ℕ) (a b : A) → unless n a ≡ good b → (n ≡ 0) × (a ≡ b)
unless_good zero a b h = (refl, cc)
unless_good (suc n) a b h = absurd (bad≢good h)

-- Lines of one kind ---------------------------------------------------------------------------------------------

-- A form that some text has.
abbrev pub Formed : {A : Type 0} → Reader A → A → Type 0
Formed form a = (s : List ℕ) × (r : List ℕ) × (form s ≡ found a r)

-- Lines after those in `seen`, each read in its form and by its rule.
abbrev pub Ruled : {A : Type 0} → Reader A → (List A → A → ℕ) → List A → List A → Type 0
Ruled form rule seen [] = Unit {0}
Ruled form rule seen (a ∷ xs) = Formed form a × (rule seen a ≡ 0) × Ruled form rule (seen ++ a ∷ []) xs

module _ {A : Type 0} (form : Reader A) (rule : List A → A → ℕ) where
  -- Lines that were found are those in `seen` and n more.
  pub lines_found : (n : ℕ) (seen : List A) (s : List ℕ) (xs : List A) (r : List ℕ) → lines form rule n seen s ≡ found xs r
      → (ys : List A) × (xs ≡ seen ++ ys) × (length ys ≡ n) × Ruled form rule seen ys
  unfolding lines
  lines_found zero seen s xs r h = ([], (cc (append-nil seen)), refl, tt)
  lines_found (suc n) seen s xs r h =
      let (a, s', e, z, f) = rule_found (form s) (rule seen) (λ a. lines form rule n (seen ++ a ∷ [])) xs r h in
      let (ys, q, m, w) = lines_found n (seen ++ a ∷ []) s' xs r f in
      (a ∷ ys, q ∙ append_assoc seen (a ∷ []) ys, ap suc m, ((s, s', e), z, w))

  -- Lines that were found, and what was found after them.
  pub lines_then : {B : Type 0} (n : ℕ) (s : List ℕ) (f : List A → Reader B) (b : B) (r : List ℕ) → next (lines form rule n [] s) f ≡ found b r
      → (xs : List A) × (s' : List ℕ) × (length xs ≡ n) × Ruled form rule [] xs × (f xs s' ≡ found b r)
  lines_then n s f b r h =
      let (xs, s', e, g) = next_found (lines form rule n [] s) f b r h in
      let (ys, q, m, w) = lines_found n [] s xs s' e in
      (xs, s', rw q m, rw q w, g)

  -- Lines to the end are those in `seen` and more.
  pub lines_to_end_found : (n : ℕ) (seen : List A) (s : List ℕ) (xs : List A) (r : List ℕ) → lines_to_end form rule n seen s ≡ found xs r
      → (ys : List A) × (xs ≡ seen ++ ys) × Ruled form rule seen ys
  unfolding lines_to_end
  lines_to_end_found zero seen s xs r h = ([], (cc (append-nil seen)), tt)
  lines_to_end_found (suc n) seen [] xs r h = ([], (cc (append-nil seen)), tt)
  lines_to_end_found (suc n) seen (c ∷ s) xs r h =
      let (a, s', e, z, f) = rule_found (form (c ∷ s)) (rule seen) (λ a. lines_to_end form rule n (seen ++ a ∷ [])) xs r h in
      let (ys, q, w) = lines_to_end_found n (seen ++ a ∷ []) s' xs r f in
      (a ∷ ys, q ∙ append_assoc seen (a ∷ []) ys, ((c ∷ s, s', e), z, w))

  -- A line that was read has its form and passed its rule; line i had i lines before it.
  pub ruled_in : (seen xs : List A) → Ruled form rule seen xs → (a : A) → In a xs
      → (before : List A) × Formed form a × (rule before a ≡ 0)
  ruled_in seen [] _ a x3 = elim x3 [ ]
  ruled_in seen (x ∷ xs) (f, z, w) a (inl e) = (seen, rw e at f, rw e at z)
  ruled_in seen (x ∷ xs) (f, z, w) a (inr i) = ruled_in (seen ++ x ∷ []) xs w a i

  pub ruled_at : (seen xs : List A) → Ruled form rule seen xs → (i : ℕ) (d : A) → i < length xs
      → (before : List A) × (length before ≡ length seen + i) × Formed form (get_or xs i d) × (rule before (get_or xs i d) ≡ 0)
  ruled_at seen [] w i d h = absurd (omega arith)
  ruled_at seen (x ∷ xs) (f, z, w) zero d h = (seen, omega arith, f, z)
  ruled_at seen (x ∷ xs) (f, z, w) (suc i) d h =
      let (before, e, f', z') = ruled_at (seen ++ x ∷ []) xs w i d (omega arith) in
      (before, omega (arith, length-append seen (x ∷ [])), f', z')

-- The numbers of a line -----------------------------------------------------------------------------------------

module _ (l : Limits) where
  pub numbers_found : (k : ℕ) (s : List ℕ) (vs r : List ℕ) → numbers l k s ≡ found vs r → length vs ≡ k
  unfolding numbers
  numbers_found zero s vs r h = let e : vs ≡ [] = cc in rw e
  numbers_found (suc k) s vs r h =
      let (v, s1, e1, h1) = next_found (number l s) (λ v s. next (exactly (mark k ∷ []) s) (λ _ s. next (numbers l k s) (λ vs. return (v ∷ vs)))) vs r h in
      let (u, s2, e2, h2) = next_found (exactly (mark k ∷ []) s1) (λ _ s. next (numbers l k s) (λ vs. return (v ∷ vs))) vs r h1 in
      let (ws, s3, e3, h3) = next_found (numbers l k s2) (λ vs. return (v ∷ vs)) vs r h2 in
      let e : vs ≡ v ∷ ws = cc in
      let m : length ws ≡ k = numbers_found k s2 ws s3 e3 in
      rw (e, m)

  pub line_found : (opening : List ℕ) (k : ℕ) (s : List ℕ) (vs r : List ℕ) → line l opening k s ≡ found vs r → length vs ≡ k
  unfolding line
  line_found opening k s vs r h =
      let (u, s', e, g) = next_found (exactly opening s) (λ _. numbers l k) vs r h in
      numbers_found k s' vs r g

  -- What is made of a line's numbers was made of as many as are due.
  pub made_found : {A : Type 0} (opening : List ℕ) (k : ℕ) (f : List ℕ → A) (s : List ℕ) (a : A) (r : List ℕ)
      → next (line l opening k s) (λ vs. return (f vs)) ≡ found a r → (vs : List ℕ) × (length vs ≡ k) × (a ≡ f vs)
  made_found opening k f s a r h =
      let (vs, s', e, g) = next_found (line l opening k s) (λ vs. return (f vs)) a r h in
      (vs, line_found opening k s vs s' e, cc)

-- A plan --------------------------------------------------------------------------------------------------------

abbrev pub plan_of : PlanHead → List Line → Plan
plan_of h ns = record { lower = h.lower; upper = h.upper; lines = ns }

triples_width : (n : ℕ) (vs : List ℕ) → length vs ≡ 3 * n → length (triples vs) ≡ n
unfolding triples
triples_width zero [] h = refl
triples_width zero (p ∷ vs) h = absurd (omega arith)
triples_width (suc n) [] h = absurd (omega arith)
triples_width (suc n) (p ∷ []) h = absurd (omega arith)
triples_width (suc n) (p ∷ e ∷ []) h = absurd (omega arith)
triples_width (suc n) (p ∷ e ∷ x ∷ vs) h = ap suc (triples_width n vs (omega arith))

module _ (l : Limits) (j : Job) where
  -- The task, and a replica, of a line that does not stray.
  kept_task : (n : Line) → strays l j n ≡ false → n.task < j.tasks
  unfolding strays
  kept_task n h = ltb-true _ _ (not-false _ (neither (not (ltb n.task j.tasks)) _ h).0)

  kept_replica : (n : Line) → strays l j n ≡ false → (r : Replica) → In r n.replicas
      → (r.processor < j.processors) × (r.early ≤ l.tick) × (r.late ≤ l.tick)
  unfolding strays
  kept_replica n h r i =
      let (a, b) = neither (not (ltb n.task j.tasks)) _ h in
      let q = none_in _ r n.replicas b i in
      let (q1, q2) = neither _ (outside 0 l.tick r.late) q in
      let (q3, q4) = neither (not (ltb r.processor j.processors)) (outside 0 l.tick r.early) q1 in
      (ltb-true _ _ (not-false _ q3), (inside 0 l.tick r.early q4).1, (inside 0 l.tick r.late q2).1)

  -- A line by the rule: it does not stray, its processors do not descend, its task is new and its predecessors' lines stand before it.
  plan_line_parts : (seen : List Line) (n : Line) → plan_line_rule l j seen n ≡ 0
      → (strays l j n ≡ false) × (descends (processors_of n) ≡ false) × (has n.task (line_tasks seen) ≡ false)
      × (all (λ e. has e.from (line_tasks seen)) (incoming j n.task) ≡ true)
  unfolding plan_line_rule
  plan_line_parts seen n h =
      let (a, h1) = passed _ _ _ h in
      let (b, h2) = passed _ _ _ h1 in
      let (c, h3) = passed _ _ _ h2 in
      let (d, e) = neither (has n.task (line_tasks seen)) _ c in
      (a, b, d, not-false _ e)

  line_width : (n : Line) → Formed (plan_line l j) n → length n.replicas ≡ j.losses + 1
  unfolding plan_line
  line_width n (s, r, h) =
      let (vs, m, e) = made_found l (bytes "T,") (1 + 3 * (1 + j.losses)) line_of s n r h in
      let w : length (triples (drop 1 vs)) ≡ j.losses + 1 = triples_width (j.losses + 1) (drop 1 vs) (omega (arith, length-drop 1 vs)) in
      rw e w

  line_facts : (seen : List Line) (ts : List ℕ) → SameTasks seen ts → (n : Line) → Formed (plan_line l j) n → plan_line_rule l j seen n ≡ 0 → LineFacts j ts n
  line_facts seen ts (to, back) n f z =
      let (a, b, c, d) = plan_line_parts seen n z in
      record {
        task_below = kept_task n a;
        width = line_width n f;
        processors_below = λ p i. let (r, k, e) = in_map (λ r. r.processor) p n.replicas i in rw (← e) (kept_replica n a r k).0;
        ascends = b;
        new = λ i. not_has n.task (line_tasks seen) c (back n.task i);
        predecessors = λ e i. to e.from (has_in e.from _ (all_in _ e (incoming j n.task) d i));
      }

  lines_ordered : (seen : List Line) (ts : List ℕ) → SameTasks seen ts → (ns : List Line) → Ruled (plan_line l j) (plan_line_rule l j) seen ns → Ordered j ts ns
  lines_ordered seen ts w [] _ = tt
  lines_ordered seen ts w (n ∷ ns) (f, z, g) = (line_facts seen ts w n f z, lines_ordered (seen ++ n ∷ []) (n.task ∷ ts) (tasks_more seen ts n w) ns g)

  plan_head_parts : (h : PlanHead) → plan_head_rule l j h ≡ 0 → (h.lower ≤ l.tick) × (h.upper ≤ l.tick)
  unfolding plan_head_rule
  plan_head_parts h z =
      let (a, _) = passed _ _ _ z in
      let (b, c) = neither _ (outside 0 l.tick h.upper) a in
      let (d, e) = neither (outside 1 l.tasks h.tasks || outside 1 l.processors h.processors || outside 0 l.losses h.losses) (outside 0 l.tick h.lower) b in
      ((inside 0 l.tick h.lower e).1, (inside 0 l.tick h.upper c).1)

  lines_within : (ns : List Line) → Ruled (plan_line l j) (plan_line_rule l j) [] ns → (n : Line) → In n ns → Ticks l.tick n
  lines_within ns w n i r k =
      let (seen, _, z) = ruled_in (plan_line l j) (plan_line_rule l j) [] ns w n i in
      let q = kept_replica n (plan_line_parts seen n z).0 r k in
      (q.1, q.2)

  made_plan : (h : PlanHead) (ns : List Line) → plan_head_rule l j h ≡ 0 → length ns ≡ j.tasks → Ruled (plan_line l j) (plan_line_rule l j) [] ns → PlanFacts l j (plan_of h ns)
  made_plan h ns z m w =
      record {
        lower_most = (plan_head_parts h z).0;
        upper_most = (plan_head_parts h z).1;
        count = m;
        ordered = lines_ordered [] [] (λ t i. i, λ t i. i) ns w;
        ticks_most = lines_within ns w;
      }

pub plan_facts : (l : Limits) (j : Job) (s : List ℕ) (p : Plan) → read_plan l j s ≡ good p → PlanFacts l j p
unfolding read_plan plan_lines
plan_facts l j s p g =
    let (h, s1, _, z, g1) = rule_found (plan_head l s) (plan_head_rule l j)
    (λ h s. next (lines (plan_line l j) (plan_line_rule l j) j.tasks [] s) (λ ns. return (plan_of h ns))) p [] (whole_good l (plan_lines l j) s p g) in
    let (ns, s2, m, w, g2) = lines_then (plan_line l j) (plan_line_rule l j) j.tasks s1 (λ ns. return (plan_of h ns)) p [] g1 in
    let e : p ≡ plan_of h ns = cc in
    rw e (made_plan l j h ns z m w)

-- A job ---------------------------------------------------------------------------------------------------------

abbrev job_of : JobHead → List (List ℕ) → List (List ℕ) → List Edge → Job
job_of h runs delays es =
    record {
      tasks = h.tasks;
      processors = h.processors;
      losses = h.losses;
      runs = map (drop 1) runs;
      delays = map (drop 1) delays;
      edges = es;
    }

-- Number p of row i of a table that lines were read into.
abbrev cell : List (List ℕ) → ℕ → ℕ → ℕ
cell rows i p = nth (get_or (map (drop 1) rows) i []) p

module _ (l : Limits) (opening : List ℕ) (k : ℕ) (rule : List (List ℕ) → List ℕ → ℕ) (rows : List (List ℕ)) (w : Ruled (line l opening (1 + k)) rule [] rows) where
  -- Where the rule keeps a line's numbers within bounds, the table's are within them.
  cell_within : (low high : ℕ) → ((seen : List (List ℕ)) (vs : List ℕ) → rule seen vs ≡ 0 → any (outside low high) (drop 1 vs) ≡ false)
      → (i p : ℕ) → i < length rows → p < k → (low ≤ cell rows i p) × (cell rows i p ≤ high)
  cell_within low high f i p a b =
      let (seen, e, (s, r, g), z) = ruled_at (line l opening (1 + k)) rule [] rows w i [] a in
      let row = get_or rows i [] in
      let m : length row ≡ 1 + k = line_found l opening (1 + k) s row r g in
      let q = none_in (outside low high) (nth (drop 1 row) p) (drop 1 row) (f seen row z) (nth_in (drop 1 row) p (omega (arith, length-drop 1 row))) in
      rw (get_or-map (drop 1) rows i []) (inside low high (nth (drop 1 row) p) q)

module _ (l : Limits) where
  run_parts : (seen : List (List ℕ)) (vs : List ℕ) → run_rule l seen vs ≡ 0 → any (outside 1 l.run_time) (drop 1 vs) ≡ false
  unfolding run_rule
  run_parts seen vs z =
      let (_, z1) = passed _ _ _ z in
      (passed _ _ _ z1).0

  delay_parts : (seen : List (List ℕ)) (vs : List ℕ) → delay_rule l seen vs ≡ 0
      → (any (outside 0 l.delay) (drop 1 vs) ≡ false) × (nth vs (1 + length seen) ≡ 0)
  unfolding delay_rule
  delay_parts seen vs z =
      let (_, z1) = passed _ _ _ z in
      let (a, z2) = passed _ _ _ z1 in
      (a, eqb-true _ _ (not-false _ (passed _ _ _ z2).0))

  cell_self : (opening : List ℕ) (k : ℕ) (rows : List (List ℕ)) → Ruled (line l opening (1 + k)) (delay_rule l) [] rows → (i : ℕ) → i < length rows → cell rows i i ≡ 0
  cell_self opening k rows w i h =
      let (seen, e, _, z) = ruled_at (line l opening (1 + k)) (delay_rule l) [] rows w i [] h in
      let n : length seen ≡ i = omega arith in
      let q : nth (get_or rows i []) (1 + i) ≡ 0 = rw n at (delay_parts seen (get_or rows i []) z).1 in
      rw (get_or-map (drop 1) rows i [], get_or-drop 1 (get_or rows i []) i 0) q

  pub edge_parts : (tasks : ℕ) (seen : List Edge) (e : Edge) → edge_rule l tasks seen e ≡ 0
      → (e.from < tasks) × (e.to < tasks) × (e.volume ≤ l.volume)
  unfolding edge_rule
  edge_parts tasks seen e z =
      let (a, _) = passed _ _ _ z in
      let (b, c) = neither _ (outside 0 l.volume e.volume) a in
      let (d, f) = neither (not (ltb e.from tasks)) (not (ltb e.to tasks)) b in
      (ltb-true _ _ (not-false _ d), ltb-true _ _ (not-false _ f), (inside 0 l.volume e.volume c).1)

  -- Edge lines that passed ascend.
  pub edges_ascend : (tasks : ℕ) (seen es : List Edge) → Ascends seen → Ruled (edge_line l) (edge_rule l tasks) seen es → Ascends (seen ++ es)
  unfolding edge_rule
  edges_ascend tasks seen [] a w = rw (append-nil seen) a
  edges_ascend tasks seen (e ∷ es) a (_, z, w) =
      rw (append_assoc seen (e ∷ []) es) at (edges_ascend tasks (seen ++ e ∷ []) es (ascends_more seen e a (passed _ _ _ z).1) w)

  pub job_head_parts : (h : JobHead) → job_head_rule l h ≡ 0
      → (1 ≤ h.tasks) × (h.tasks ≤ l.tasks) × (1 ≤ h.processors) × (h.processors ≤ l.processors) × (h.edges ≤ l.edges) × (h.losses ≤ l.losses)
      × (h.losses + 1 ≤ h.processors)
  unfolding job_head_rule
  job_head_parts h z =
      let (a, z1) = passed _ _ _ z in
      let (b, _) = passed _ _ _ z1 in
      let v = outside 1 l.tasks h.tasks in
      let m = outside 1 l.processors h.processors in
      let e = outside 0 l.edges h.edges in
      let (a1, x) = neither (v || m || e) (outside 0 l.losses h.losses) a in
      let (a2, y) = neither (v || m) e a1 in
      let (t, u) = neither v m a2 in
      let (v1, v2) = inside 1 l.tasks h.tasks t in
      let (m1, m2) = inside 1 l.processors h.processors u in
      (v1, v2, m1, m2, (inside 0 l.edges h.edges y).1, (inside 0 l.losses h.losses x).1, ltb-false _ _ b)

  module _ (h : JobHead) (runs delays : List (List ℕ)) (es : List Edge) where
    made_job : job_head_rule l h ≡ 0
        → length runs ≡ h.tasks → Ruled (line l (bytes "C,") (1 + h.processors)) (run_rule l) [] runs
        → length delays ≡ h.processors → Ruled (line l (bytes "D,") (1 + h.processors)) (delay_rule l) [] delays
        → length es ≡ h.edges → Ruled (edge_line l) (edge_rule l h.tasks) [] es
        → circular (job_of h runs delays es) ≡ false → JobFacts l (job_of h runs delays es)
    unfolding run_time delay
    made_job z cm cw dm dw em ew c =
        let (a1, a2, a3, a4, a5, a6, a7) = job_head_parts h z in
        let run = cell_within l (bytes "C,") h.processors (run_rule l) runs cw 1 l.run_time run_parts in
        let wait = cell_within l (bytes "D,") h.processors (delay_rule l) delays dw 0 l.delay (λ seen vs z. (delay_parts seen vs z).0) in
        let edge : (e : Edge) → In e es → (e.from < h.tasks) × (e.to < h.tasks) × (e.volume ≤ l.volume) =
        λ e i. let r = ruled_in (edge_line l) (edge_rule l h.tasks) [] es ew e i in edge_parts h.tasks r.0 e r.2 in
        record {
          some_task = a1;
          tasks_most = a2;
          some_processor = a3;
          processors_most = a4;
          losses_most = a6;
          enough = a7;
          edges_most = omega arith;
          run_least = λ t p a b. (run t p (omega arith) b).0;
          run_most = λ t p a b. (run t p (omega arith) b).1;
          delay_most = λ p q a b. (wait p q (omega arith) b).1;
          delay_self = λ p a. cell_self (bytes "D,") h.processors delays dw p (omega arith);
          from_task = λ e i. (edge e i).0;
          to_task = λ e i. (edge e i).1;
          volume_most = λ e i. (edge e i).2;
          ascends = edges_ascend h.tasks [] es tt ew;
          no_circle = c;
        }

  -- The lines of a job from the edges on, from the delays on, from the run times on.
  abbrev from_edges : JobHead → List (List ℕ) → List (List ℕ) → Reader Job
  from_edges h runs delays = λ s. next (lines (edge_line l) (edge_rule l h.tasks) h.edges [] s) (λ es. return (job_of h runs delays es))

  abbrev from_delays : JobHead → List (List ℕ) → Reader Job
  from_delays h runs = λ s. next (lines (line l (bytes "D,") (1 + h.processors)) (delay_rule l) h.processors [] s) (from_edges h runs)

  abbrev from_runs : JobHead → Reader Job
  from_runs h = λ s. next (lines (line l (bytes "C,") (1 + h.processors)) (run_rule l) h.tasks [] s) (from_delays h)

  -- A job whose head has passed its rule.
  pub runs_found : (h : JobHead) (s : List ℕ) (j : Job) (r : List ℕ) → job_head_rule l h ≡ 0 → from_runs h s ≡ found j r → circular j ≡ false → JobFacts l j
  runs_found h s j r z g c =
      let (runs, s2, cm, cw, g2) = lines_then (line l (bytes "C,") (1 + h.processors)) (run_rule l) h.tasks s (from_delays h) j r g in
      let (delays, s3, dm, dw, g3) = lines_then (line l (bytes "D,") (1 + h.processors)) (delay_rule l) h.processors s2 (from_edges h runs) j r g2 in
      let (es, s4, em, ew, g4) = lines_then (edge_line l) (edge_rule l h.tasks) h.edges s3 (λ es. return (job_of h runs delays es)) j r g3 in
      let e : j ≡ job_of h runs delays es = cc in
      rw e (made_job h runs delays es z cm cw dm dw em ew (rw e at c))

  job_found : (s : List ℕ) (j : Job) (r : List ℕ) → job_lines l s ≡ found j r → circular j ≡ false → JobFacts l j
  unfolding job_lines
  job_found s j r g c =
      let (h, s1, _, z, g1) = rule_found (job_head l s) (job_head_rule l) from_runs j r g in
      runs_found h s1 j r z g1 c

pub job_facts : (l : Limits) (s : List ℕ) (j : Job) → read_job l s ≡ good j → JobFacts l j
unfolding read_job
job_facts l s j g =
    let (i, a, b) = and_then_good (whole l (job_lines l) s) (λ j. unless (first_of ((circular j, 7) ∷ [])) j) j g in
    let (z, e) = unless_good (first_of ((circular i, 7) ∷ [])) i j b in
    rw e at (job_found l s i [] (whole_good l (job_lines l) s i a) (passed (circular i) 6 [] z).0)

-- A stop list ---------------------------------------------------------------------------------------------------

after_last_lem : (q : Option Stop) (s : Stop) → not_after q s ≡ false → after_last q ≤ s.processor
after_last_lem none s h = omega arith
after_last_lem (some q) s h = omega (arith, leb-false s.processor q.processor h)

module _ (l : Limits) (j : Job) where
  stop_parts : (seen : List Stop) (s : Stop) → stop_rule l j seen s ≡ 0
      → (after_last (get_last? seen) ≤ s.processor) × (s.processor < j.processors) × (s.tick ≤ l.tick)
  unfolding stop_rule
  stop_parts seen s z =
      let (a, z1) = passed _ _ _ z in
      let (b, c) = neither (not (ltb s.processor j.processors)) (outside 0 l.tick s.tick) a in
      (after_last_lem (get_last? seen) s (passed _ _ _ z1).0, ltb-true _ _ (not-false _ b), (inside 0 l.tick s.tick c).1)

  stops_ascend : (seen ss : List Stop) → Ruled (stop_line l) (stop_rule l j) seen ss → Ascending l j (after_last (get_last? seen)) ss
  stops_ascend seen [] w = tt
  stops_ascend seen (s ∷ ss) (_, z, w) =
      let (a, b, c) = stop_parts seen s z in
      let more : Ascending l j (after_last (get_last? (seen ++ s ∷ []))) ss = stops_ascend (seen ++ s ∷ []) ss w in
      (a, b, c, rw (last_of seen s) at more)

pub stop_facts : (l : Limits) (j : Job) (s : List ℕ) (ss : List Stop) → read_stops l j s ≡ good ss → Ascending l j 0 ss
unfolding read_stops
stop_facts l j s ss g =
    let h = whole_good l (lines_to_end (stop_line l) (stop_rule l j) (length s) []) s ss g in
    let (ys, e, w) = lines_to_end_found (stop_line l) (stop_rule l j) (length s) [] s ss [] h in
    rw e (stops_ascend l j [] ys w)
