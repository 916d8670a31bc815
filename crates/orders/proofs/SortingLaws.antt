-- How the order of the tasks is made among the links: counts of the edges that block a task, the tasks listed.
use Rattle.std.proofs.lemmas.Bool.Decides.{nat_tests}
use Rattle.std.specs.Prelude.{if◌then◌else◌}
use Rattle.std.proofs.lemmas.Grind.{common_steps}
use Rattle.lists.proofs.Prelude.{◌≡◌, refl, ap, ◌∙◌, sym, ◌⊎◌, inl, inr, ⊎_elim, List, [], ◌∷◌, map, reverse_aux, Bool, true, false, not, ◌&&◌, ℕ, zero, suc, ◌+◌, ◌-◌, ◌<◌, ◌≤◌, arith, add-one, eqb, length, drop, set, length-set, length-drop, get_or-set_same, get_or-set_other, get_or-drop, eqb-true, eqb-false, eq-eqb, ne_eqb, not-true, nth, In, any, has, keep, distinct, below, Edge}
use lib.Seq.{drop-set-add}
use Rattle.definitions.proofs.Lists.{in_keep, keep_in, keep_every, has_in, has_not, not_has, head_apart, fits, below_in, length_count}
use Rattle.lists.proofs.Counting.{last_or_before, equal_or_not}
use Rattle.lists.proofs.ListLaws.{keep_keep, keep_same}
use Rattle.orders.proofs.LinkIn.{link_in_lem}
use Rattle.orders.proofs.RunLaws.{run_other, task_of}
use Rattle.orders.proofs.OrderLaws.{listed_length, listed_place, place_listed, places_apart}
use Rattle.orders.proofs.Walk.{pass_more}
use Rattle.orders.specs.Edges.{edge_in}
use Rattle.orders.specs.Order.{Within, listed, Arranged}
use Rattle.orders.specs.Links.{run, Run, leaving, entering, out_start_at, in_start_at, order_at, pending_at, in_edge_at, link_in, Runs, Counted}
use Rattle.orders.specs.Sorting.{ordered, pending, released, joined, joined_count, blocking, Blocked, PredecessorsFirst, Queue, Sorting}

-- Counts of edges ---------------------------------------------------------------------------------------------

module _ {A : Type 0} (f : A → Bool) where
  count_first : (x : A) (xs : List A) → length (keep f (x ∷ xs)) ≡ (if f x then 1 else 0) + length (keep f xs)
  unfolding keep
  count_first x xs = grind (arith, common_steps)

  -- Those that f is true of, by whether g is.
  count_split : (g : A → Bool) (xs : List A) → length (keep f xs) ≡ length (keep f (keep (λ x. not (g x)) xs)) + length (keep f (keep g xs))
  unfolding keep
  count_split g [] = refl
  count_split g (x ∷ xs) = grind (arith, common_steps, count_split g xs)

  -- Backwards they are as many.
  count_reverse : (xs ys : List A) → length (keep f (reverse_aux xs ys)) ≡ length (keep f xs) + length (keep f ys)
  unfolding keep
  count_reverse [] ys = omega arith
  count_reverse (x ∷ xs) ys = omega (arith, count_reverse xs (x ∷ ys), count_first x xs, count_first x ys)

  -- None is there, if none is counted.
  count_none : (xs : List A) → length (keep f xs) ≡ 0 → (x : A) → In x xs → f x ≡ true → ⊥
  count_none xs z x i t = some (keep f xs) z (keep_in f x xs i t)
    where
      some : (ys : List A) → length ys ≡ 0 → In x ys → ⊥
      some [] z j = elim j [ ]
      some (y ∷ ys) z j = omega (arith, z)

-- What is counted is there.
count_some : {A : Type 0} (xs : List A) → 0 < length xs → (x : A) × In x xs
count_some [] h = absurd (omega arith)
count_some (x ∷ xs) h = (x, inl refl)

module _ (x t : ℕ) (ts : List ℕ) (n : In t ts → ⊥) where
  -- A task is not among ts and t, or is t.
  beside : ((not (has x ts) && not (eqb x t)) ≡ not (has x (t ∷ ts))) × ((not (has x ts) && eqb x t) ≡ eqb x t)
  unfolding any
  beside = grind (arith, common_steps, has_not t ts n)

-- With t the edges that leave t block no more.
blocking_less : (t : ℕ) (ts : List ℕ) (u : ℕ) (es : List Edge) → (In t ts → ⊥)
    → length (entering u (blocking ts es)) ≡ length (entering u (blocking (t ∷ ts) es)) + length (entering u (leaving t es))
blocking_less t ts u es n =
    let p : keep (λ e. not (eqb e.from t)) (blocking ts es) ≡ blocking (t ∷ ts) es = keep_keep _ _ es ∙ keep_same _ _ es (λ e i. (beside e.from t ts n).0) in
    let q : leaving t (blocking ts es) ≡ leaving t es = keep_keep _ _ es ∙ keep_same _ _ es (λ e i. (beside e.from t ts n).1) in
    rw (p, q) at (count_split (λ e. eqb e.to u) (λ e. eqb e.from t) (blocking ts es))

-- Where none of these edges enters u, every edge to u leaves a task of ts.
blocking_none : (ts : List ℕ) (u : ℕ) (es : List Edge) → length (entering u (blocking ts es)) ≡ 0 → (e : Edge) → In e es → e.to ≡ u → In e.from ts
blocking_none ts u es z e i q =
    grind (arith, nat_tests, has_in e.from ts, count_none (λ e. eqb e.to u) (blocking ts es) z e, keep_in (λ e. not (has e.from ts)) e es i)

-- The queue ---------------------------------------------------------------------------------------------------

module _ {es : List Edge} {v : ℕ} {ts : List ℕ} {waits : ℕ → ℕ} (q : Queue es v ts waits) where
  -- One task u more is seen, or waits for fewer edges: it joins the queue if it waits for none.
  queue_next : (w u : ℕ) (now : ℕ → ℕ) (b : Bool) → eqb (now u) 0 ≡ b → (In u ts → ⊥) → v ≤ w → u < w → ((t : ℕ) → t < w → (t ≡ u → ⊥) → t < v)
      → ((t : ℕ) → (t ≡ u → ⊥) → now t ≡ waits t) → (now u ≡ 0 → (e : Edge) → In e es → e.to ≡ u → In e.from ts)
      → Queue es w (if b then u ∷ ts else ts) now
  unfolding PredecessorsFirst
  queue_next w u now b x new more here inner same predecessors = by b x
    where
      old : (t : ℕ) → In t ts → (t < w) × (now t ≡ 0)
      old t i = let (h, z) = q.task_of t i in (omega arith, same t (λ e. new (rw e at i)) ∙ z)

      free : (t : ℕ) → t < w → now t ≡ 0 → (t ≡ u → ⊥) → In t ts
      free t h z d = q.free_of t (inner t h d) (sym (same t d) ∙ z)

      by : (b : Bool) → eqb (now u) 0 ≡ b → Queue es w (if b then u ∷ ts else ts) now
      by true x =
          let z = eqb-true (now u) 0 x in
          record {
            task_of = λ t. ⊎_elim (λ (e : u ≡ t). rw (← e) (here, z)) (old t);
            free_of = λ t h y. ⊎_elim (λ e. inl (sym e)) (λ d. inr (free t h y d)) (equal_or_not t u);
            once = head_apart u ts new q.once;
            predecessors = (predecessors z, q.predecessors);
          }
      by false x = record {
        task_of = old;
        free_of = λ t h y. ⊎_elim (λ (e : t ≡ u). absurd (eqb-false (now u) 0 x (rw e at y))) (free t h y) (equal_or_not t u);
        once = q.once;
        predecessors = q.predecessors;
      }

-- The tables --------------------------------------------------------------------------------------------------

-- A store behind the tasks listed changes nothing.
listed_set : (order : List ℕ) (i x n : ℕ) → n ≤ i → listed (set order i x) n ≡ listed order n
unfolding listed
listed_set order i x zero h = refl
listed_set order i x (suc n) h = grind (arith, common_steps, listed_set order i x n)

-- More tasks are listed.
listed_more : (order : List ℕ) (k n t : ℕ) → k ≤ n → In t (listed order k) → In t (listed order n)
unfolding listed
listed_more order k zero t h i = let q : k ≡ 0 = omega arith in rw q at i
listed_more order k (suc n) t h i = ⊎_elim (λ (q : k ≡ suc n). rw q at i) (λ l. inr (listed_more order k n t (omega arith) i)) (last_or_before (suc n) k (omega arith))

-- A store to the tables of order and counts leaves the runs as they are.
pub runs_set : {v : ℕ} {edges links : List ℕ} → Runs v edges links → (i x : ℕ) → order_at v 0 ≤ i → i < in_edge_at v 0 → Runs v edges (set links i x)
runs_set {v} {edges} {links} r i x low high = record {
  size = simp length-set r.size;
  outs = λ t h. rw (same (out_start_at v t) (omega arith), same (out_start_at v (t + 1)) (omega arith)) (r.outs t h);
  ins = λ t h.
      let q = r.ins t h in
      let a = r.apart t h in
      rw (same (in_start_at v t) (omega arith), same (in_start_at v (t + 1)) (omega arith))
      record { rises = q.rises; within = simp length-set q.within; edges = run_other _ _ i x links (inl (omega arith)) ∙ q.edges };
  apart = λ t h. rw (same (in_start_at v t) (omega arith)) (r.apart t h);
}
  where
    same : (k : ℕ) → k < order_at v 0 → nth (set links i x) k ≡ nth links k
    same k h = get_or-set_other links i k x 0 (omega arith)

-- A store to the counts leaves the order as it is.
ordered_set : (v : ℕ) (links : List ℕ) (u x i : ℕ) → i ≤ v → ordered v i (set links (pending_at v u) x) ≡ ordered v i links
ordered_set v links u x i h =
    let e : pending_at v u ≡ order_at v 0 + (v + 1 + u) = omega arith in
    rw (e, drop-set-add (order_at v 0) links (v + 1 + u) x) (listed_set (drop (order_at v 0) links) (v + 1 + u) x i (omega arith))

-- What a task that joins the order, or does not, leaves as it was, and what it changes.
pub record Joins (v : ℕ) (edges links : List ℕ) (u n : ℕ) (b : Bool) (now : List ℕ) (m : ℕ) : Type 0 where
  pub runs : Runs v edges now
  pub counts : (t : ℕ) → pending v now t ≡ pending v links t
  pub before : (i : ℕ) → i ≤ n → ordered v i now ≡ ordered v i links
  pub order : ordered v m now ≡ (if b then u ∷ ordered v n links else ordered v n links)
  pub more : n ≤ m

joins : {v : ℕ} {edges links : List ℕ} (u n : ℕ) → Runs v edges links → n ≤ v → (b : Bool)
    → Joins v edges links u n b (if b then set links (order_at v n) u else links) (if b then n + 1 else n)
unfolding listed
joins {v} {edges} {links} u n r few true =
    let e : order_at v n ≡ order_at v 0 + n = omega arith in
    let s : drop (order_at v 0) (set links (order_at v n) u) ≡ set (drop (order_at v 0) links) n u = rw e (drop-set-add (order_at v 0) links n u) in
    record {
      runs = runs_set r (order_at v n) u (omega arith) (omega arith);
      counts = λ t. get_or-set_other links (order_at v n) (pending_at v t) u 0 (omega arith);
      before = λ i h. rw s (listed_set (drop (order_at v 0) links) n u i h);
      order = rw (s, add-one n, get_or-set_same (drop (order_at v 0) links) n u 0 (simp length-drop (omega (arith, r.size, few))), listed_set (drop (order_at v 0) links) n u n (omega arith));
      more = omega arith;
    }
joins u n r few false = record { runs = r; counts = λ t. refl; before = λ i h. refl; order = refl; more = omega arith }

-- The tasks that no edge enters -------------------------------------------------------------------------------

module _ {v : ℕ} {edges links : List ℕ} where
  -- No task is seen yet.
  pub sorting_none : Runs v edges links → Counted v edges links → Sorting v edges links 0 0 0 []
  unfolding listed distinct PredecessorsFirst any keep
  sorting_none r c = record {
    runs = r;
    queue = record { task_of = λ t i. absurd i; free_of = λ t h z. absurd (omega arith); once = refl; predecessors = tt };
    most = omega arith;
    count = λ u h. rw (keep_every (λ (e : Edge). true) (map edge_in edges) (λ e i. refl)) (omega (arith, c u h));
  }

  pub sorting_most : {w i n : ℕ} {some : List Edge} → Sorting v edges links w i n some → n ≤ w
  sorting_most {w} {n = n} s =
      let q = s.queue in
      omega (arith, fits (ordered v n links) (below w) q.once (λ t i. below_in w t (q.task_of t i).0), length_count 0 w, listed_length (drop (order_at v 0) links) n)

  -- One task u more is seen, or waits for fewer edges: it joins the order if it waits for none.
  sorting_offer : {w i n : ℕ} {waits : ℕ → ℕ} {some : List Edge} (x u : ℕ) → Runs v edges links → Queue (map edge_in edges) w (ordered v n links) waits
      → i ≤ n → n ≤ v → Blocked v edges links i some → (In u (ordered v n links) → ⊥) → w ≤ x → u < x → x ≤ v
      → ((t : ℕ) → t < x → (t ≡ u → ⊥) → t < w) → ((t : ℕ) → (t ≡ u → ⊥) → pending v links t ≡ waits t)
      → Sorting v edges (joined v u n links) x i (joined_count v u n links) some
  sorting_offer {i = i} {n = n} x u r q most few count new more here inner seen same =
      let j = joins u n r few (eqb (pending v links u) 0) in
      record {
        runs = j.runs;
        queue =
            rw j.order
            (queue_next q x u (pending v (joined v u n links)) (eqb (pending v links u) 0) (ap (λ (x : ℕ). eqb x 0) (j.counts u)) new more here seen
            (λ t d. j.counts t ∙ same t d)
            (λ z e m p. listed_more (drop (order_at v 0) links) i n e.from most
            (blocking_none (ordered v i links) u (map edge_in edges) (omega (arith, z, j.counts u, count u (omega arith))) e m p)));
        most = omega (arith, most, j.more);
        count = λ t h. rw (j.before i most) (j.counts t ∙ count t h);
      }

  pub sorting_entry : {t n : ℕ} → Sorting v edges links t 0 n [] → t < v → Sorting v edges (joined v t n links) (t + 1) 0 (joined_count v t n links) []
  sorting_entry {t} s h =
      sorting_offer (t + 1) t s.runs s.queue s.most (omega (arith, sorting_most s)) s.count (λ m. omega (arith, (s.queue.task_of t m).0))
      (omega arith) (omega arith) (omega arith) (λ u l d. omega arith) (λ u d. refl)

-- A task of the order is released -----------------------------------------------------------------------------

module _ {v : ℕ} {edges links : List ℕ} {i n : ℕ} where
  -- At first all edges that leave it, task t, block.
  pub sorting_begin : Sorting v edges links v i n [] → i < n → (t a b : ℕ) → t ≡ link_in v i (order_at v i) links
      → a ≡ link_in v t (out_start_at v t) links → b ≡ link_in v t (out_start_at v (t + 1)) links
      → (a ≤ b) × (b ≤ length edges) × Sorting v edges links v (i + 1) n (run a (b - a) edges)
  unfolding listed keep
  sorting_begin s h t a b p x y =
      let o = drop (order_at v 0) links in
      let size = s.runs.size in
      let few = sorting_most s in
      let q : order_at v i ≡ order_at v 0 + i = omega arith in
      let same : nth o i ≡ t = rw (p, link_in_lem v i (order_at v i) links (length edges) size (omega arith), q) (get_or-drop (order_at v 0) links i 0) in
      let below : t < v = rw (← same) (s.queue.task_of (nth o i) (place_listed o n i h)).0 in
      let r : Run a b edges (leaving t (map edge_in edges)) =
      rw (x, y, link_in_lem v t (out_start_at v t) links (length edges) size below, link_in_lem v t (out_start_at v (t + 1)) links (length edges) size below) (s.runs.outs t below) in
      let new : In t (listed o i) → ⊥ = λ m. let (k, l, e) = listed_place o i t m in places_apart o n s.queue.once k i l h (e ∙ sym same) in (
        r.rises,
        r.within,
        rw (add-one i) record {
          runs = s.runs;
          queue = s.queue;
          most = h;
          count = λ u g.
              let z = blocking_less t (listed o i) u (map edge_in edges) new in
              rw (r.edges, same) (omega (arith, s.count u g, z, count_reverse (λ e. eqb e.to u) (leaving t (map edge_in edges)) []));
        },
      )

  -- The last of them, in cell k, which enters a task below v.
  pub sorting_last : (a b k : ℕ) → Within v (map edge_in edges) → b ≡ k + 1 → a ≤ k → b ≤ length edges → Sorting v edges links v i n (run a (b - a) edges)
      → ((edge_in (nth edges k)).to < v) × Sorting v edges links v i n (edge_in (nth edges k) ∷ run a (k - a) edges)
  sorting_last a b k w e h l s = (task_of edges k w (omega arith), rw (pass_more a edges k b h e) at s)

module _ {v : ℕ} {edges links : List ℕ} {i n : ℕ} {e : Edge} {some : List Edge} (h : e.to < v) (s : Sorting v edges links v i n (e ∷ some)) where
  -- An edge that still blocks is counted at the task that it enters, and not elsewhere.
  here : length (entering e.to (e ∷ some)) ≡ suc (length (entering e.to some))
  unfolding keep
  here = rw (eq-eqb e.to e.to refl)

  there : (u : ℕ) → (u ≡ e.to → ⊥) → length (entering u (e ∷ some)) ≡ length (entering u some)
  unfolding keep
  there u d = rw (ne_eqb e.to u (λ q. d (sym q)))

  pub sorting_least : 1 ≤ pending v links e.to
  sorting_least = omega (arith, s.count e.to h, here)

  -- It no longer blocks.
  pub sorting_next : Sorting v edges (joined v e.to n (released v e.to links)) v i (joined_count v e.to n (released v e.to links)) some
  sorting_next =
      let u = e.to in
      let few = sorting_most s in
      let most = s.most in
      let same = ordered_set v links u (pending v links u - 1) in
      sorting_offer v u (runs_set s.runs (pending_at v u) (pending v links u - 1) (omega arith) (omega arith)) (rw (same n few) s.queue) most few
      (λ t g. rw (same i (omega arith)) (⊎_elim (at_to t) (λ d. omega (arith, other t d, s.count t g, there t d)) (equal_or_not t u)))
      (rw (same n few) (λ m. omega (arith, (s.queue.task_of u m).1, sorting_least))) (omega arith) h (omega arith) (λ t l d. l) other
    where
      other : (t : ℕ) → (t ≡ e.to → ⊥) → pending v (released v e.to links) t ≡ pending v links t
      other t d = get_or-set_other links (pending_at v e.to) (pending_at v t) (pending v links e.to - 1) 0 (omega (arith, d))

      at_to : (t : ℕ) → t ≡ e.to
          → pending v (released v e.to links) t ≡ length (entering t (blocking (ordered v i links) (map edge_in edges))) + length (entering t some)
      at_to t q =
          rw (q, get_or-set_same links (pending_at v e.to) (pending v links e.to - 1) 0 (omega (arith, s.runs.size, h)))
          (omega (arith, s.count e.to h, here))

-- When every task of the order was released -------------------------------------------------------------------

predecessors_after : (es : List Edge) (order : List ℕ) (n : ℕ) → PredecessorsFirst es (listed order n) → (k : ℕ) → k < n → (e : Edge) → In e es → e.to ≡ nth order k → In e.from (listed order k)
unfolding listed PredecessorsFirst
predecessors_after es order zero f k h = absurd (omega arith)
predecessors_after es order (suc n) f k h = ⊎_elim (λ (q : k ≡ n). rw q f.0) (predecessors_after es order n f.1 k) (last_or_before n k h)

pub sorting_done : {v : ℕ} {edges links : List ℕ} {n : ℕ} → Sorting v edges links v n n [] → Arranged v (map edge_in edges) (drop (order_at v 0) links) n
unfolding keep
sorting_done {v} {edges} {links} {n} s = record {
  task_of = λ t i. (s.queue.task_of t i).0;
  once = s.queue.once;
  after = predecessors_after (map edge_in edges) (drop (order_at v 0) links) n s.queue.predecessors;
  rest = λ t h. by t h (eqb (pending v links t) 0) refl;
}
  where
    by : (t : ℕ) → t < v → (b : Bool) → eqb (pending v links t) 0 ≡ b
        → In t (ordered v n links) ⊎ ((e : Edge) × In e (map edge_in edges) × (e.to ≡ t) × (In e.from (ordered v n links) → ⊥))
    by t h true z = inl (s.queue.free_of t h (eqb-true (pending v links t) 0 z))
    by t h false z =
        let d = eqb-false (pending v links t) 0 z in
        let (e, i) = count_some (entering t (blocking (ordered v n links) (map edge_in edges))) (omega (arith, s.count t h, d)) in
        let (j, q) = in_keep (λ e. eqb e.to t) e (blocking (ordered v n links) (map edge_in edges)) i in
        let (k, o) = in_keep (λ e. not (has e.from (ordered v n links))) e (map edge_in edges) j in
        inr (e, k, eqb-true e.to t q, not_has e.from (ordered v n links) (not-true (has e.from (ordered v n links)) o))
