-- What is printed as a plan or a stop list is read back, and how long it is.
use mathlib.Core.Path.{◌≡◌, refl, ap, ◌∙◌}
use mathlib.Core.Logic.{inl, inr, ⊎_elim}
use mathlib.Core.List.{List, [], ◌∷◌, ◌++◌, append_assoc, append-nil, get_last?}
use mathlib.Core.Bool.{false, not, ◌||◌}
use mathlib.Core.Option.{Option, none, some}
use Prim.Native.Nat.{ℕ, zero, suc, ◌+◌, ◌*◌, ◌^◌, ◌<◌, ◌≤◌}
use native.Mathlib.Omega.{arith}
use native.Mathlib.Nat.{mul-le-mul_right}
use lib.Dec.{ltb}
use lib.ListN.{length, length-append}
use borrow.Author.Tests.{lt-ltb, le-ltb, lt-leb, eq-eqb}
use Rattle.definitions.specs.Lists.{bytes, In, has}
use Rattle.definitions.specs.Limits.{Limits}
use Rattle.definitions.specs.Text.{found, Reader, next, return, first_of, exactly, line, numbers_text, line_text, lines, lines_to_end, good, whole}
use Rattle.definitions.specs.Job.{Job, incoming, outside}
use Rattle.definitions.specs.Plan.{Replica, Line, Plan, triples, line_of, plan_head_of, plan_head, plan_head_rule, strays, plan_line, plan_line_rule, plan_lines, read_plan, replica_numbers, plan_lines_text, plan_text, line_tasks}
use Rattle.definitions.specs.Stops.{Stop, not_after, stop_line, stop_rule, read_stops, stops_text}
use Rattle.definitions.specs.Claims.{plan_ticks, field_length, line_length, plan_length, Roomy, Printable}
use Rattle.definitions.proofs.Lists.{neither_false, not_outside, last_of, none_any, map_in, in_has, has_not, in_all}
use Rattle.definitions.specs.Facts.{JobFacts, LineFacts, Ordered, Ticks, PlanFacts, Ascending, after_last}
use Rattle.definitions.proofs.Tasks.{SameTasks, tasks_more}
use Rattle.definitions.proofs.Reading.{refused≢found, next_found, due_found, rule_found, whole_good, plan_of}
use Rattle.definitions.proofs.Decimal.{line_back, line_only, width_powers, width_monotone, length_none, length_numbers, length_line}

below_true : (n m : ℕ) → n < m → not (ltb n m) ≡ false
below_true n m h = ap not (lt-ltb n m h)

-- A line of a plan --------------------------------------------------------------------------------------------

triples_back : (rs : List Replica) → triples (replica_numbers rs) ≡ rs
unfolding triples replica_numbers
triples_back [] = refl
triples_back (r ∷ rs) = ap (λ (qs : List Replica). r ∷ qs) (triples_back rs)

length_triples : (rs : List Replica) → length (replica_numbers rs) ≡ 3 * length rs
unfolding replica_numbers
length_triples [] = refl
length_triples (r ∷ rs) = omega (arith, length_triples rs)

in_triples : (most : ℕ) (rs : List Replica) → ((r : Replica) → In r rs → (r.processor < most) × (r.early < most) × (r.late < most)) → (v : ℕ) → In v (replica_numbers rs) → v < most
unfolding replica_numbers
in_triples most [] h v x'' = elim x'' [ ]
in_triples most (r ∷ rs) h v (inl e) = rw e at (h r (inl refl)).0
in_triples most (r ∷ rs) h v (inr (inl e)) = rw e at (h r (inl refl)).1
in_triples most (r ∷ rs) h v (inr (inr (inl e))) = rw e at (h r (inl refl)).2
in_triples most (r ∷ rs) h v (inr (inr (inr i))) = in_triples most rs (λ q k. h q (inr k)) v i

-- What is known of a replica of such a line.
in_range_lem : (j : Job) (most : ℕ) (seen : List ℕ) (n : Line) → LineFacts j seen n → Ticks most n → (r : Replica) → In r n.replicas
    → (r.processor < j.processors) × (r.early ≤ most) × (r.late ≤ most)
in_range_lem j most seen n f ticks r i = (f.processors_below r.processor (map_in (λ r. r.processor) r n.replicas i), (ticks r i).0, (ticks r i).1)

-- The numbers of a plan's first line.
abbrev head_numbers : Job → Plan → List ℕ
head_numbers j p = j.tasks ∷ j.processors ∷ j.losses ∷ p.lower ∷ p.upper ∷ []

module _ (l : Limits) (roomy : Roomy l) (j : Job) (facts : JobFacts l j) where
  line_numbers : (seen : List ℕ) (n : Line) → LineFacts j seen n → Ticks l.tick n → (v : ℕ) → In v (n.task ∷ replica_numbers n.replicas) → v < 10 ^ l.powers
  line_numbers seen n f ticks v (inl e) = omega (arith, f.task_below)
  line_numbers seen n f ticks v (inr i) =
      in_triples (10 ^ l.powers) n.replicas (λ r k. let q = in_range_lem j l.tick seen n f ticks r k in omega arith) v i

  plan_line_back : (seen : List ℕ) (n : Line) (s : List ℕ) → LineFacts j seen n → Ticks l.tick n
      → plan_line l j (line_text l (bytes "T,") (n.task ∷ replica_numbers n.replicas) ++ s) ≡ found n s
  unfolding plan_line
  plan_line_back seen n s f ticks =
      let vs : List ℕ = n.task ∷ replica_numbers n.replicas in
      let k : 1 + 3 * (1 + j.losses) ≡ length vs = omega (arith, length_triples n.replicas, f.width) in
      let r = line_back l roomy.some_digit roomy.digits_read (bytes "T,") vs s (line_numbers seen n f ticks) in
      rw (k, r, triples_back n.replicas)

  no_stray : (seen : List ℕ) (n : Line) → LineFacts j seen n → Ticks l.tick n → strays l j n ≡ false
  unfolding strays
  no_stray seen n f ticks = neither_false (below_true n.task j.tasks f.task_below) (none_any _ n.replicas in_range)
    where
      in_range : (r : Replica) → In r n.replicas
          → (not (ltb r.processor j.processors) || outside 0 l.tick r.early || outside 0 l.tick r.late) ≡ false
      in_range r i =
          let (p, e, x) = in_range_lem j l.tick seen n f ticks r i in
          neither_false (neither_false (below_true r.processor j.processors p) (not_outside 0 l.tick r.early (omega arith) e)) (not_outside 0 l.tick r.late (omega arith) x)

  plan_line_rule_lem : (seen : List ℕ) (before : List Line) (n : Line) → LineFacts j seen n → Ticks l.tick n
      → SameTasks before seen → plan_line_rule l j before n ≡ 0
  unfolding plan_line_rule first_of
  plan_line_rule_lem seen before n f ticks (to, back) =
      let new : has n.task (line_tasks before) ≡ false = has_not n.task (line_tasks before) (λ i. f.new (to n.task i)) in
      let predecessors = in_all (λ e. has e.from (line_tasks before)) (incoming j n.task) (λ e i. in_has e.from (line_tasks before) (back e.from (f.predecessors e i))) in
      rw (no_stray seen n f ticks, f.ascends, new, predecessors)

  plan_lines_back : (seen : List ℕ) (before ns : List Line) → Ordered j seen ns → ((n : Line) → In n ns → Ticks l.tick n) → SameTasks before seen
      → lines (plan_line l j) (plan_line_rule l j) (length ns) before (plan_lines_text l ns) ≡ found (before ++ ns) []
  unfolding lines plan_lines_text
  plan_lines_back seen before [] o ticks same = rw (append-nil before)
  plan_lines_back seen before (n ∷ ns) (f, fs) ticks same =
      let e : before ++ n ∷ [] ++ ns ≡ before ++ n ∷ ns = append_assoc before (n ∷ []) ns in
      let r = plan_lines_back (n.task ∷ seen) (before ++ n ∷ []) ns fs (λ m i. ticks m (inr i)) (tasks_more before seen n same) in
      rw (plan_line_back seen n (plan_lines_text l ns) f (ticks n (inl refl)), plan_line_rule_lem seen before n f (ticks n (inl refl)) same, r, e)

  -- A plan ---------------------------------------------------------------------------------------------------

  head_numbers_lem : (p : Plan) → p.lower < 10 ^ l.powers → p.upper < 10 ^ l.powers → (v : ℕ) → In v (head_numbers j p) → v < 10 ^ l.powers
  head_numbers_lem p lower upper v (inr (inr (inr (inr (inr x5))))) = elim x5 [ ]
  head_numbers_lem p lower upper v (inl e) = omega arith
  head_numbers_lem p lower upper v (inr (inl e)) = omega arith
  head_numbers_lem p lower upper v (inr (inr (inl e))) = omega arith
  head_numbers_lem p lower upper v (inr (inr (inr (inl e)))) = omega arith
  head_numbers_lem p lower upper v (inr (inr (inr (inr (inl e))))) = omega arith

  plan_head_back : (p : Plan) (s : List ℕ) → p.lower < 10 ^ l.powers → p.upper < 10 ^ l.powers
      → plan_head l (line_text l (bytes "PLAN,") (head_numbers j p) ++ s) ≡ found (plan_head_of (head_numbers j p)) s
  unfolding plan_head
  plan_head_back p s lower upper = rw (line_back l roomy.some_digit roomy.digits_read (bytes "PLAN,") (head_numbers j p) s (head_numbers_lem p lower upper))

  plan_head_rule_lem : (p : Plan) → PlanFacts l j p → plan_head_rule l j (plan_head_of (head_numbers j p)) ≡ 0
  unfolding plan_head_rule first_of
  plan_head_rule_lem p f =
      rw (
        not_outside 1 l.tasks j.tasks facts.some_task facts.tasks_most,
        not_outside 1 l.processors j.processors facts.some_processor facts.processors_most,
        not_outside 0 l.losses j.losses (omega arith) facts.losses_most,
        not_outside 0 l.tick p.lower (omega arith) f.lower_most,
        not_outside 0 l.tick p.upper (omega arith) f.upper_most,
        eq-eqb j.tasks j.tasks refl,
        eq-eqb j.processors j.processors refl,
        eq-eqb j.losses j.losses refl,
      )

  plan_read : (p : Plan) → PlanFacts l j p → plan_lines l j (plan_text l j p) ≡ found p []
  unfolding plan_lines plan_text
  plan_read p f =
      let r = plan_lines_back [] [] p.lines f.ordered f.ticks_most ((λ t i. i), (λ t i. i)) in
      rw (plan_head_back p (plan_lines_text l p.lines) (omega (arith, f.lower_most)) (omega (arith, f.upper_most)), plan_head_rule_lem p f, rw f.count at r)

  -- Whatever plan is printed: it is read as no other --------------------------------------------------------

  -- The numbers of a line are printed with all their digits.
  abbrev Printed : Line → Type 0
  Printed n = (v : ℕ) → In v (n.task ∷ replica_numbers n.replicas) → v < 10 ^ l.powers

  plan_line_only : (n a : Line) (s r : List ℕ) → Printed n → plan_line l j (line_text l (bytes "T,") (n.task ∷ replica_numbers n.replicas) ++ s) ≡ found a r
      → (a ≡ n) × (r ≡ s)
  unfolding plan_line
  plan_line_only n a s r h g =
      let k = 1 + 3 * (1 + j.losses) in
      let vs : List ℕ = replica_numbers n.replicas in
      let (ws, t, e, f) = next_found (line l (bytes "T,") k (line_text l (bytes "T,") (n.task ∷ vs) ++ s)) (λ vs. return (line_of vs)) a r g in
      let (p, q) = line_only l roomy.some_digit roomy.digits_read (bytes "T,") k n.task vs s ws t (omega arith) h e in
      let made : a ≡ line_of ws = cc in
      (made ∙ ap (λ ws. line_of ws) p ∙ rw (triples_back n.replicas), cc)

  no_line : (a : Line) (r : List ℕ) → plan_line l j [] ≡ found a r → ⊥
  unfolding plan_line line exactly
  no_line a r h = refused≢found h

  plan_lines_only : (k : ℕ) (before ns xs : List Line) → ((n : Line) → In n ns → Printed n)
      → lines (plan_line l j) (plan_line_rule l j) k before (plan_lines_text l ns) ≡ found xs [] → xs ≡ before ++ ns
  unfolding lines plan_lines_text line_text
  plan_lines_only zero before [] xs h g = (cc (append-nil before))
  plan_lines_only zero before (n ∷ ns) xs h g = let z : ◌≡◌ {A = ℕ} 0 1 = cc in absurd (omega arith)
  plan_lines_only (suc k) before [] xs h g =
      let (a, s, e, _, _) = rule_found (plan_line l j []) (plan_line_rule l j before) (λ a. lines (plan_line l j) (plan_line_rule l j) k (before ++ a ∷ [])) xs [] g in
      absurd (no_line a s e)
  plan_lines_only (suc k) before (n ∷ ns) xs h g =
      let (a, s, e, _, f) = rule_found (plan_line l j (plan_lines_text l (n ∷ ns))) (plan_line_rule l j before) (λ a. lines (plan_line l j) (plan_line_rule l j) k (before ++ a ∷ [])) xs [] g in
      let (p, q) = plan_line_only n a (plan_lines_text l ns) s (h n (inl refl)) e in
      plan_lines_only k (before ++ n ∷ []) ns xs (λ m i. h m (inr i)) (same a s p q f) ∙ append_assoc before (n ∷ []) ns
    where
      same : (a : Line) (s : List ℕ) → a ≡ n → s ≡ plan_lines_text l ns → lines (plan_line l j) (plan_line_rule l j) k (before ++ a ∷ []) s ≡ found xs []
          → lines (plan_line l j) (plan_line_rule l j) k (before ++ n ∷ []) (plan_lines_text l ns) ≡ found xs []
      same a s p q f = rw (p, q) at f

  pub plan_only : (p q : Plan) → Printable l p → read_plan l j (plan_text l j p) ≡ good q → q ≡ p
  unfolding read_plan plan_lines plan_text
  plan_only p q h g =
      let x = plan_head_of (head_numbers j p) in
      let w = whole_good l (plan_lines l j) (plan_text l j p) q g in
      let v = rw (plan_head_back p (plan_lines_text l p.lines) h.lower_printed h.upper_printed) at w in
      let (_, f) = due_found (plan_head_rule l j x) (λ s. next (lines (plan_line l j) (plan_line_rule l j) j.tasks [] s) (λ ns. return (plan_of x ns))) (plan_lines_text l p.lines) q [] v in
      let (ns, t, d, z) = next_found (lines (plan_line l j) (plan_line_rule l j) j.tasks [] (plan_lines_text l p.lines)) (λ ns. return (plan_of x ns)) q [] f in
      made ns t d z
    where
      made : (ns : List Line) (t : List ℕ) → lines (plan_line l j) (plan_line_rule l j) j.tasks [] (plan_lines_text l p.lines) ≡ found ns t
          → found (plan_of (plan_head_of (head_numbers j p)) ns) t ≡ found q [] → q ≡ p
      made ns t d z =
          let e : t ≡ [] = cc in
          let m : ns ≡ p.lines = plan_lines_only j.tasks [] p.lines ns h.line_printed (rw e at d) in
          let made : q ≡ plan_of (plan_head_of (head_numbers j p)) ns = cc in
          made ∙ ap (plan_of (plan_head_of (head_numbers j p))) m

whole_fits : {A : Type 0} (l : Limits) (r : Reader A) (s : List ℕ) (a : A) → length s ≤ l.text_length → r s ≡ found a [] → whole l r s ≡ good a
whole_fits l r s a h e = rw (le-ltb l.text_length (length s) h, e)

-- A printed plan is read back.
pub plan_back : (l : Limits) → Roomy l → (j : Job) (p : Plan) → JobFacts l j → PlanFacts l j p → length (plan_text l j p) ≤ l.text_length
    → read_plan l j (plan_text l j p) ≡ good p
unfolding read_plan
plan_back l roomy j p facts f h = whole_fits l (plan_lines l j) (plan_text l j p) p h (plan_read l roomy j facts p f)

-- Stops -------------------------------------------------------------------------------------------------------

last_before : (q : Option Stop) (s : Stop) → after_last q ≤ s.processor → not_after q s ≡ false
last_before none s h = refl
last_before (some q) s h = lt-leb s.processor q.processor (omega arith)

module _ (l : Limits) (roomy : Roomy l) (j : Job) (facts : JobFacts l j) where
  stop_line_back : (s : Stop) (t : List ℕ) → s.processor < j.processors → s.tick ≤ l.tick
      → stop_line l (line_text l (bytes "S,") (s.processor ∷ s.tick ∷ []) ++ t) ≡ found s t
  unfolding stop_line
  stop_line_back s t h g =
      let vs : List ℕ = s.processor ∷ s.tick ∷ [] in
      let most : (v : ℕ) → In v vs → v < 10 ^ l.powers = λ v. ⊎_elim (λ e. omega arith) (⊎_elim (λ e. omega arith) absurd) in
      rw (line_back l roomy.some_digit roomy.digits_read (bytes "S,") vs t most)

  stop_rule_lem : (before : List Stop) (s : Stop) → after_last (get_last? before) ≤ s.processor → s.processor < j.processors → s.tick ≤ l.tick
      → stop_rule l j before s ≡ 0
  unfolding stop_rule first_of
  stop_rule_lem before s h g t =
      rw (below_true s.processor j.processors g, not_outside 0 l.tick s.tick (omega arith) t, last_before (get_last? before) s h)

  stop_lines_back : (k : ℕ) (before ss : List Stop) → Ascending l j (after_last (get_last? before)) ss → length (stops_text l ss) ≤ k
      → lines_to_end (stop_line l) (stop_rule l j) k before (stops_text l ss) ≡ found (before ++ ss) []
  unfolding lines_to_end stops_text line_text
  stop_lines_back zero before [] a h = rw (append-nil before)
  stop_lines_back (suc k) before [] a h = rw (append-nil before)
  stop_lines_back zero before (s ∷ ss) a h = absurd (omega arith)
  stop_lines_back (suc k) before (s ∷ ss) (a, b, c, d) h =
      let e : before ++ s ∷ [] ++ ss ≡ before ++ s ∷ ss = append_assoc before (s ∷ []) ss in
      let n = length-append (line_text l (bytes "S,") (s.processor ∷ s.tick ∷ [])) (stops_text l ss) in
      let r = stop_lines_back k (before ++ s ∷ []) ss (rw (last_of before s) d) (omega arith) in
      rw (stop_line_back s (stops_text l ss) b c, stop_rule_lem before s a b c, r, e)

-- A printed stop list is read back.
pub stops_back : (l : Limits) → Roomy l → (j : Job) (ss : List Stop) → JobFacts l j → Ascending l j 0 ss → length (stops_text l ss) ≤ l.text_length
    → read_stops l j (stops_text l ss) ≡ good ss
unfolding read_stops
stops_back l roomy j ss facts a h =
    whole_fits l (lines_to_end (stop_line l) (stop_rule l j) (length (stops_text l ss)) []) (stops_text l ss) ss h
    (stop_lines_back l roomy j facts (length (stops_text l ss)) [] ss a (omega arith))

-- Lengths -----------------------------------------------------------------------------------------------------

-- A triple's bytes.
abbrev triple_length : Limits → ℕ
triple_length l = field_length l l.processors + field_length l (plan_ticks l) + field_length l (plan_ticks l)

module _ (l : Limits) where
  field_length_lem : (n most : ℕ) (vs : List ℕ) → n ≤ most → length (numbers_text l (n ∷ vs)) ≤ field_length l most + length (numbers_text l vs)
  field_length_lem n most vs h = omega (arith, length_numbers l n vs, width_monotone l n most h)

  replicas_length : (rs : List Replica) → ((r : Replica) → In r rs → (r.processor ≤ l.processors) × (r.early ≤ plan_ticks l) × (r.late ≤ plan_ticks l))
      → length (numbers_text l (replica_numbers rs)) ≤ length rs * triple_length l
  unfolding replica_numbers
  replicas_length [] h = omega (arith, length_none l)
  replicas_length (r ∷ rs) h =
      let ns : List ℕ = replica_numbers rs in
      let b = h r (inl refl) in
      omega (
        arith,
        field_length_lem r.processor l.processors (r.early ∷ r.late ∷ ns) b.0,
        field_length_lem r.early (plan_ticks l) (r.late ∷ ns) b.1,
        field_length_lem r.late (plan_ticks l) ns b.2,
        replicas_length rs (λ q i. h q (inr i)),
      )

  module _ (j : Job) (facts : JobFacts l j) where
    plan_line_length : (seen : List ℕ) (n : Line) → LineFacts j seen n → Ticks (plan_ticks l) n
        → length (line_text l (bytes "T,") (n.task ∷ replica_numbers n.replicas)) ≤ line_length l
    unfolding line_length
    plan_line_length seen n f ticks =
        let ns : List ℕ = replica_numbers n.replicas in
        let r = replicas_length n.replicas (λ r i. let q = in_range_lem j (plan_ticks l) seen n f ticks r i in omega arith) in
        let w : length n.replicas ≤ l.losses + 1 = omega (arith, f.width) in
        omega (
          arith,
          length_line l (bytes "T,") (n.task ∷ ns),
          field_length_lem n.task l.tasks ns (omega (arith, f.task_below)),
          mul-le-mul_right (triple_length l) w,
        )

    plan_lines_length : (seen : List ℕ) (ns : List Line) → Ordered j seen ns → ((n : Line) → In n ns → Ticks (plan_ticks l) n)
        → length (plan_lines_text l ns) ≤ length ns * line_length l
    unfolding plan_lines_text
    plan_lines_length seen [] o ticks = omega arith
    plan_lines_length seen (n ∷ ns) (f, fs) ticks =
        omega (
          arith,
          length-append (line_text l (bytes "T,") (n.task ∷ replica_numbers n.replicas)) (plan_lines_text l ns),
          plan_line_length seen n f (ticks n (inl refl)),
          plan_lines_length (n.task ∷ seen) ns fs (λ m i. ticks m (inr i)),
        )

    -- A printed plan of which no tick passes the bound is at most as long as the longest.
    pub plan_length_lem : (p : Plan) → PlanFacts l j p → p.lower ≤ plan_ticks l → p.upper ≤ plan_ticks l → ((n : Line) → In n p.lines → Ticks (plan_ticks l) n)
        → length (plan_text l j p) ≤ plan_length l
    unfolding plan_text plan_length
    plan_length_lem p f lower upper ticks =
        let lines = rw f.count at (plan_lines_length [] p.lines f.ordered ticks) in
        omega (
          arith,
          length-append (line_text l (bytes "PLAN,") (head_numbers j p)) (plan_lines_text l p.lines),
          length_line l (bytes "PLAN,") (head_numbers j p),
          field_length_lem j.tasks l.tasks (j.processors ∷ j.losses ∷ p.lower ∷ p.upper ∷ []) facts.tasks_most,
          field_length_lem j.processors l.processors (j.losses ∷ p.lower ∷ p.upper ∷ []) facts.processors_most,
          field_length_lem j.losses l.losses (p.lower ∷ p.upper ∷ []) facts.losses_most,
          field_length_lem p.lower (plan_ticks l) (p.upper ∷ []) lower,
          field_length_lem p.upper (plan_ticks l) [] upper,
          length_none l,
          mul-le-mul_right (line_length l) facts.tasks_most,
        )

-- A line of a stop list has at most 2 + 2 × (powers + 1) bytes.
pub stops_length : (l : Limits) → 1 ≤ l.powers → (ss : List Stop) → length (stops_text l ss) ≤ length ss * (2 + 2 * (l.powers + 1))
unfolding stops_text
stops_length l least [] = omega arith
stops_length l least (s ∷ ss) =
    omega (
      arith,
      length-append (line_text l (bytes "S,") (s.processor ∷ s.tick ∷ [])) (stops_text l ss),
      length_line l (bytes "S,") (s.processor ∷ s.tick ∷ []),
      length_numbers l s.processor (s.tick ∷ []),
      width_powers l s.processor least,
      length_numbers l s.tick [],
      width_powers l s.tick least,
      length_none l,
      stops_length l least ss,
    )

stops_above : (l : Limits) (j : Job) (low : ℕ) (ss : List Stop) → low ≤ j.processors → Ascending l j low ss → length ss + low ≤ j.processors
stops_above l j low [] h a = omega arith
stops_above l j low (s ∷ ss) h (a, b, c, d) = omega (arith, stops_above l j (1 + s.processor) ss (omega arith) d)

-- Stops that ascend are no more than the processors.
pub stops_count : (l : Limits) (j : Job) (ss : List Stop) → Ascending l j 0 ss → length ss ≤ j.processors
stops_count l j ss a = omega (arith, stops_above l j 0 ss (omega arith) a)

-- So they fit where a line for each processor does.
pub stops_fit : (l : Limits) → Roomy l → (j : Job) (ss : List Stop) → JobFacts l j → Ascending l j 0 ss → length (stops_text l ss) ≤ l.text_length
stops_fit l roomy j ss facts a =
    let n : length ss ≤ l.processors = omega (arith, stops_count l j ss a) in
    omega (arith, stops_length l roomy.some_digit ss, mul-le-mul_right (2 + 2 * (l.powers + 1)) n)
