-- A line of a plan in order that stands in a memory: the lines before it, and its processors.
use Rattle.lists.proofs.Prelude.{◌≡◌, refl, ap, sym, ◌⊎◌, inl, inr, ⊎_elim, List, [], ◌∷◌, map, true, false, ℕ, zero, suc, ◌+◌, ◌<◌, ◌≤◌, arith, add-one, length, nth, below, count_from, In, distinct, Edge, Job, incoming, Line, processors_of, descends, Limits, Ordered, LineFacts}
use Rattle.definitions.proofs.Lists.{apart_head, head_apart, nth_in, map_in, below_in}
use Rattle.definitions.proofs.Doubled.{rising}
use Rattle.heads.specs.Layout.{line_at, row_at, processor_at}
use Rattle.jobs.specs.Held.{job_in}
use Rattle.plans.specs.Lines.{lines_in, LinesHeld}
use Rattle.plans.specs.Loading.{line_in}
use Rattle.plans.proofs.Lines.{processors_length, processor_at_lem, lines_below}
use Rattle.plans.proofs.PlanLaws.{ascends_at}
use Rattle.lists.proofs.Counting.{equal_or_not}
use Rattle.rounds.proofs.Placed.{PredecessorsPlacedBy}

-- Numbers that do not descend ---------------------------------------------------------------------------------------

-- They differ exactly if none is the one before.
pub apart_at : (ps : List ℕ) (i : ℕ) → distinct ps ≡ true → suc i < length ps → nth ps i ≡ nth ps (suc i) → ⊥
apart_at [] i d h e = omega arith
apart_at (p ∷ ps) zero d h e = (apart_head p ps d).0 (rw e (nth_in ps 0 (omega arith)))
apart_at (p ∷ ps) (suc i) d h e = apart_at ps i (apart_head p ps d).1 (omega arith) e

pub ascend_apart : (ps : List ℕ) → descends ps ≡ false → ((i : ℕ) → suc i < length ps → nth ps i ≡ nth ps (suc i) → ⊥) → distinct ps ≡ true
unfolding distinct
ascend_apart [] d n = refl
ascend_apart (p ∷ []) d n = head_apart p [] (λ i. i) refl
ascend_apart (p ∷ q ∷ ps) d n =
    let (f, g) = rising p (q ∷ ps) d in
    let most = (rising q ps g).0 in
    head_apart p (q ∷ ps)
    (⊎_elim (λ e. n 0 (omega arith) (sym e)) (λ i. n 0 (omega arith) (omega (arith, f q (inl refl), most p i))))
    (ascend_apart (q ∷ ps) g (λ i l. n (suc i) (omega arith)))

-- Lines in order ----------------------------------------------------------------------------------------------------

pub line_among : (capacity k n : ℕ) (mem : List ℕ) → k < n → In (line_in (row_at capacity k) mem) (lines_in capacity (nth mem 3 + 1) n mem)
line_among capacity k n mem l = rw (lines_below mem capacity (nth mem 3 + 1) n) (map_in (λ i. line_in (row_at capacity i) mem) k (below n) (below_in n k l))

-- What is known of one of them, after the lines before it.
ordered_at : (j : Job) (f : ℕ → Line) (seen : List ℕ) (a n : ℕ) → Ordered j seen (map f (count_from a n)) → (k : ℕ) → a ≤ k → k < a + n
    → (us : List ℕ) × LineFacts j us (f k) × ((u : ℕ) → In u us → In u seen ⊎ ((i : ℕ) × (i < k) × ((f i).task ≡ u)))
unfolding count_from
ordered_at j f seen a zero o k p q = absurd (omega arith)
ordered_at j f seen a (suc n) (o, os) k p q =
    ⊎_elim
    (λ (e : k ≡ a). rw e (seen, o, λ u i. inl i))
    (λ (g : k ≡ a → ⊥).
    let (us, r, m) = ordered_at j f ((f a).task ∷ seen) (suc a) n os k (omega arith) (omega arith) in
    (us, r, λ u i. ⊎_elim (⊎_elim (λ e. inr (a, omega arith, e)) inl) inr (m u i)))
    (equal_or_not k a)

module _ {lim : Limits} {capacity : ℕ} {mem : List ℕ} (s : LinesHeld lim capacity (nth mem 0) mem) (o : Ordered (job_in mem) [] (lines_in capacity (nth mem 3 + 1) (nth mem 0) mem))
    (k : ℕ) (l : k < nth mem 0) where
  line_facts : (us : List ℕ) × LineFacts (job_in mem) us (line_in (row_at capacity k) mem) × ((u : ℕ) → In u us → (i : ℕ) × (i < k) × (nth mem (row_at capacity i) ≡ u))
  line_facts =
      let q = rw (lines_below mem capacity (nth mem 3 + 1) (nth mem 0)) at o in
      let (us, f, m) = ordered_at (job_in mem) (λ i. line_in (row_at capacity i) mem) [] 0 (nth mem 0) q k (omega arith) (omega arith) in
      (us, f, λ u i. ⊎_elim absurd (λ r. r) (m u i))

  pub line_ascends : descends (processors_of (line_in (row_at capacity k) mem)) ≡ false
  line_ascends = line_facts.1.ascends

  -- No processor is less than the one before.
  pub line_rises : (c : ℕ) → c < nth mem 3 → nth mem (processor_at (row_at capacity k) c) ≤ nth mem (processor_at (row_at capacity k) (c + 1))
  line_rises c g =
      let ps = processors_of (line_in (row_at capacity k) mem) in
      let up = ascends_at ps c line_ascends (omega (arith, processors_length mem (row_at capacity k) (nth mem 3 + 1))) in
      let here = processor_at_lem mem (row_at capacity k) (nth mem 3 + 1) in
      omega (arith, up, here c (omega arith), here (suc c) (omega arith), ap (λ (i : ℕ). nth mem (processor_at (row_at capacity k) i)) (add-one c))

  -- Its predecessors have their lines before it.
  pub line_predecessors : PredecessorsPlacedBy capacity k (nth mem (row_at capacity k)) mem
  line_predecessors e i =
      let (us, f, m) = line_facts in
      let (n, g, q) = m e.from (f.predecessors e i) in
      let own : nth mem (line_at capacity + e.from) ≡ suc n = rw q at (s.line_of n (omega arith)) in
      omega arith

  -- It does not feed itself.
  pub line_apart : (e : Edge) → In e (incoming (job_in mem) (nth mem (row_at capacity k))) → nth mem (row_at capacity k) ≡ e.from → ⊥
  line_apart e i q = let own : nth mem (line_at capacity + e.from) ≡ suc k = rw q at (s.line_of k l) in omega (arith, line_predecessors e i)
