-- An order of the tasks: the places of its tasks, and that it has every task exactly if the edges form no circle.
use Rattle.lists.proofs.Prelude.{◌≡◌, refl, ap, ◌∙◌, sym, ◌⊎◌, inl, inr, ⊎_elim, List, Bool, true, false, not, ℕ, zero, suc, ◌<◌, ◌≤◌, arith, eqb, ltb, length, eq-eqb, ltb-true, ltb-false, not-true, nth, below, keep, In, has, distinct, Edge, Job, incoming, circular}
use Rattle.definitions.specs.Job.{Path, one, more}
use Rattle.definitions.proofs.Lists.{in_keep, keep_in, not_has, has_not, apart_head, fits, spare, length_count, in_below, below_in, distinct_count, full}
use Rattle.definitions.proofs.Circle.{free_task, circle_found}
use Rattle.lists.proofs.Counting.{last_or_before}
use Rattle.orders.specs.Order.{listed, Arranged}

-- Places ------------------------------------------------------------------------------------------------------

pub listed_length : (order : List ℕ) (n : ℕ) → length (listed order n) ≡ n
unfolding listed
listed_length order zero = refl
listed_length order (suc n) = ap suc (listed_length order n)

-- A task is listed exactly if it has a place.
pub listed_place : (order : List ℕ) (n t : ℕ) → In t (listed order n) → (k : ℕ) × (k < n) × (nth order k ≡ t)
unfolding listed
listed_place order zero t x' = elim x' [ ]
listed_place order (suc n) t (inl e) = (n, omega arith, e)
listed_place order (suc n) t (inr i) = let (k, h, e) = listed_place order n t i in (k, omega arith, e)

pub place_listed : (order : List ℕ) (n k : ℕ) → k < n → In (nth order k) (listed order n)
unfolding listed
place_listed order zero k h = absurd (omega arith)
place_listed order (suc n) k h = ⊎_elim (λ (q : k ≡ n). inl (rw q)) (λ l. inr (place_listed order n k l)) (last_or_before n k h)

-- Where no task is listed twice two places have two tasks.
pub places_apart : (order : List ℕ) (n : ℕ) → distinct (listed order n) ≡ true → (m k : ℕ) → m < k → k < n → nth order m ≡ nth order k → ⊥
unfolding listed
places_apart order zero d m k l h e = omega arith
places_apart order (suc n) d m k l h e =
    let (new, d') = apart_head (nth order n) (listed order n) d in
    ⊎_elim (λ (q : k ≡ n). new (rw (← q, ← e) (place_listed order k m l))) (λ g. places_apart order n d' m k l g e) (last_or_before n k h)

-- An order and the circle -------------------------------------------------------------------------------------

module _ {v : ℕ} {es : List Edge} {order : List ℕ} {n : ℕ} (a : Arranged v es order n) where
  -- It has no more tasks than there are.
  pub arranged_most : n ≤ v
  arranged_most =
      omega (arith, listed_length order n, length_count 0 v, fits (listed order n) (below v) a.once (λ t i. below_in v t (a.task_of t i)))

  -- A path leads from an earlier place to a later one.
  path_back : {s t : ℕ} → Path es s t → (k : ℕ) → k < n → nth order k ≡ t → (m : ℕ) × (m < k) × (nth order m ≡ s)
  path_back (one e i f q) k h g =
      let (m, l, p) = listed_place order k e.from (a.after k h e i (q ∙ sym g)) in
      (m, l, p ∙ f)
  path_back (more w e i f q) k h g =
      let (m, l, p) = listed_place order k e.from (a.after k h e i (q ∙ sym g)) in
      let (m', l', p') = path_back w m (omega arith) (p ∙ f) in
      (m', omega arith, p')

module _ (j : Job) where
  -- Without a circle it has every task.
  pub arranged_all : circular j ≡ false → {order : List ℕ} {n : ℕ} → Arranged j.tasks j.edges order n
      → ((e : Edge) → In e j.edges → e.from < j.tasks) → n ≡ j.tasks
  unfolding incoming
  arranged_all c {order} {n} a f = by (ltb n j.tasks) refl
    where
      lacks : ℕ → Bool
      lacks t = not (has t (listed order n))

      lacked : (t : ℕ) → t < j.tasks → (In t (listed order n) → ⊥) → In t (keep lacks (below j.tasks))
      lacked t h m = keep_in lacks t (below j.tasks) (below_in j.tasks t h) (ap not (has_not t (listed order n) m))

      held : (t : ℕ) → lacks t ≡ true → ((e : Edge) → In e (incoming j t) → In e.from (keep lacks (below j.tasks)) → ⊥)
          → In t (listed order n) ⊎ ((e : Edge) × In e j.edges × (e.to ≡ t) × (In e.from (listed order n) → ⊥)) → ⊥
      held t g free (inl i) = not_has t (listed order n) (not-true (has t (listed order n)) g) i
      held t g free (inr (e, i, q, m)) = free e (keep_in (λ e. eqb e.to t) e j.edges i (eq-eqb e.to t q)) (lacked e.from (f e i) m)

      by : (b : Bool) → ltb n j.tasks ≡ b → n ≡ j.tasks
      by true l =
          let few : length (listed order n) < length (below j.tasks) = omega (arith, listed_length order n, length_count 0 j.tasks, ltb-true n j.tasks l) in
          let (u, i, m) = spare (below j.tasks) (listed order n) (distinct_count 0 j.tasks) few in
          let (t, k, free) = free_task j c (keep lacks (below j.tasks)) (λ u i. in_below j.tasks u (in_keep lacks u (below j.tasks) i).0) u
          (lacked u (in_below j.tasks u i) (not_has u (listed order n) m)) in
          let (b, g) = in_keep lacks t (below j.tasks) k in
          absurd (held t g free (a.rest t (in_below j.tasks t b)))
      by false l = omega (arith, arranged_most a, ltb-false n j.tasks l)

  -- Where it has every task there is no circle.
  pub arranged_none : {order : List ℕ} {n : ℕ} → Arranged j.tasks j.edges order n → j.tasks ≤ n
      → ((e : Edge) → In e j.edges → e.to < j.tasks) → circular j ≡ false
  arranged_none {order} {n} a l b = by (circular j) refl
    where
      ends : {s t : ℕ} → Path j.edges s t → t < j.tasks
      ends (one e i f q) = rw (← q) (b e i)
      ends (more w e i f q) = rw (← q) (b e i)

      by : (x : Bool) → circular j ≡ x → x ≡ false
      by true c =
          let (t, w) = circle_found j c in
          let every : n ≡ j.tasks = omega (arith, arranged_most a) in
          let (k, h, g) = listed_place order n t (full j.tasks (listed order n) a.once a.task_of (listed_length order n ∙ every) t (ends w)) in
          let (m, d, p) = path_back a w k h g in
          absurd (places_apart order n a.once m k d h (p ∙ sym g))
      by false c = refl
