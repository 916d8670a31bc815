-- The edges form a circle exactly if some task has a path to itself; without one, of any tasks one is free.
use mathlib.Core.Path.{◌≡◌, refl, ap, ◌∙◌, sym}
use mathlib.Core.Logic.{inl, inr}
use mathlib.Core.List.{List, [], ◌∷◌}
use mathlib.Core.Bool.{Bool, true, false, not, ◌&&◌, true≢false}
use Prim.Native.Nat.{ℕ, zero, suc, ◌+◌, ◌<◌, ◌≤◌}
use native.Mathlib.Omega.{arith}
use lib.Dec.{eqb}
use lib.ListN.{length}
use borrow.Author.Tests.{eqb-true, eq-eqb, not-true, not-false}
use Rattle.definitions.specs.Lists.{In, any, has, empty, distinct, below}
use Rattle.definitions.specs.Job.{Edge, Job, incoming, preceded, remaining, circular, Path, one, more, Circle}
use Rattle.definitions.proofs.Lists.{both, both_true, some_in, in_some, any_in, in_any, none_in, in_keep, keep_in, has_in, in_has, not_has, fits, length_count, in_below, below_in}
use Rattle.definitions.proofs.Tasks.{in_incoming}

-- Chains ------------------------------------------------------------------------------------------------------

-- One path after the other.
pub joined : {es : List Edge} {a b c : ℕ} → Path es a b → Path es b c → Path es a c
joined p (one e i f t) = more p e i f t
joined p (more q e i f t) = more (joined p q) e i f t

-- A chain from task a: n edges, each beginning where the one before it ends, among tasks below v.
pub data Chain (es : List Edge) (v : ℕ) : ℕ → ℕ → Type 0 where
  stay : {a : ℕ} → a < v → Chain es v a zero
  step : {a b n : ℕ} → a < v → (e : Edge) → In e es → e.from ≡ a → e.to ≡ b → Chain es v b n → Chain es v a (suc n)

module _ {es : List Edge} {v : ℕ} where
  -- The tasks of a chain; those after its first.
  tasks_after : {a n : ℕ} → Chain es v a n → List ℕ
  tasks_after (stay l) = []
  tasks_after (step {b = b} l e i f t c) = b ∷ tasks_after c

  length_after : {a n : ℕ} (c : Chain es v a n) → length (tasks_after c) ≡ n
  unfolding tasks_after
  length_after (stay l) = refl
  length_after (step l e i f t c) = ap suc (length_after c)

  chain_below : {a n : ℕ} (c : Chain es v a n) (x : ℕ) → In x (a ∷ tasks_after c) → x < v
  unfolding tasks_after
  chain_below (stay {a = a} l) x (inr k) = elim k [ ]
  chain_below (stay l) x (inl q) = rw (← q) l
  chain_below (step l e i f t c) x (inl q) = rw (← q) l
  chain_below (step l e i f t c) x (inr k) = chain_below c x k

  -- There is a path to each task of a chain after its first.
  chain_path : {a n : ℕ} (c : Chain es v a n) (x : ℕ) → In x (tasks_after c) → Path es a x
  unfolding tasks_after
  chain_path (stay {a = a} _) x x8 = elim x8 [ ]
  chain_path (step l e i f t c) x (inl q) = one e i f (t ∙ q)
  chain_path (step l e i f t c) x (inr k) = joined (one e i f t) (chain_path c x k)

  -- A chain with a task twice has a path from that task to itself.
  chain_twice : {a n : ℕ} (c : Chain es v a n) → distinct (a ∷ tasks_after c) ≡ false → (t : ℕ) × Path es t t
  unfolding tasks_after distinct any
  chain_twice (stay l) d = absurd (true≢false d)
  chain_twice {a} (step {b = b} l e i f t c) d = by (has a (b ∷ tasks_after c)) refl d (chain_twice c)
    where
      by : (h : Bool) → has a (b ∷ tasks_after c) ≡ h → (not h && distinct (b ∷ tasks_after c)) ≡ false
          → (distinct (b ∷ tasks_after c) ≡ false → (t : ℕ) × Path es t t) → (t : ℕ) × Path es t t
      by true q d r = (a, chain_path (step l e i f t c) a (has_in a (b ∷ tasks_after c) q))
      by false q d r = r d

  -- A chain of v edges among tasks below v has a path from a task to itself.
  pub chain_circle : {a : ℕ} → Chain es v a v → (t : ℕ) × Path es t t
  chain_circle {a} c = by (distinct (a ∷ tasks_after c)) refl
    where
      by : (d : Bool) → distinct (a ∷ tasks_after c) ≡ d → (t : ℕ) × Path es t t
      by true d =
          let few : suc (length (tasks_after c)) ≤ length (below v) = fits (a ∷ tasks_after c) (below v) d (λ x i. below_in v x (chain_below c x i)) in
          absurd (omega (arith, length_after c, length_count 0 v))
      by false d = chain_twice c d

-- What remains ------------------------------------------------------------------------------------------------

module _ (es : List Edge) where
  -- The edge e leads from some of these tasks to t.
  abbrev leads : List ℕ → ℕ → Edge → Bool
  leads ts t e = eqb e.to t && has e.from ts

  -- What remains after one time more is what is left of what remains.
  remaining_suc : (n : ℕ) (ts : List ℕ) → remaining (suc n) es ts ≡ preceded es (remaining n es ts)
  unfolding remaining
  remaining_suc zero ts = refl
  remaining_suc (suc n) ts = remaining_suc n (preceded es ts)

  -- A task that one of the tasks precedes is left, and a task that is left is one that one of them precedes.
  in_preceded : (t : ℕ) (ts : List ℕ) → In t ts → (e : Edge) → In e es → e.to ≡ t → In e.from ts → In t (preceded es ts)
  unfolding preceded
  in_preceded t ts m e k q f =
      keep_in (λ t. any (leads ts t) es) t ts m (in_any (leads ts t) e es k (both_true (eq-eqb e.to t q) (in_has e.from ts f)))

  preceded_in : (t : ℕ) (ts : List ℕ) → In t (preceded es ts) → In t ts × ((e : Edge) × In e es × (e.to ≡ t) × In e.from ts)
  unfolding preceded
  preceded_in t ts i =
      let (m, h) = in_keep (λ t. any (leads ts t) es) t ts i in
      let (e, k, l) = any_in (leads ts t) es h in
      let (q, g) = both (eqb e.to t) (has e.from ts) l in
      (m, (e, k, eqb-true e.to t q, has_in e.from ts g))

  remaining_in : (n t : ℕ) (ts : List ℕ) → In t (remaining n es ts) → In t ts
  unfolding remaining
  remaining_in zero t ts i = i
  remaining_in (suc n) t ts i = (preceded_in t ts (remaining_in n t (preceded es ts) i)).0

  -- A chain from a task that remains after n times is the end of a chain with n edges more.
  longer : {v : ℕ} (ts : List ℕ) → ((x : ℕ) → In x ts → x < v) → (n k m t : ℕ) → m ≡ k + n → In t (remaining n es ts) → Chain es v t k
      → (a : ℕ) × Chain es v a m
  longer ts b zero k m t s i c = let same : m ≡ k = omega arith in (t, rw same c)
  longer ts b (suc n) k m t s i c =
      let left : In t (preceded es (remaining n es ts)) = rw remaining_suc at i in
      let (e, j, q, f) = (preceded_in t (remaining n es ts) left).1 in
      longer ts b n (suc k) m e.from (omega arith) f (step (b e.from (remaining_in n e.from ts f)) e j refl q c)

  -- Tasks each of which has a predecessor among them remain.
  stays : (P : ℕ → Type 0) → ((u : ℕ) → P u → (e : Edge) × In e es × (e.to ≡ u) × P e.from)
      → (n : ℕ) (ts : List ℕ) → ((u : ℕ) → P u → In u ts) → (u : ℕ) → P u → In u (remaining n es ts)
  unfolding remaining
  stays P before zero ts s u p = s u p
  stays P before (suc n) ts s u p =
      stays P before n (preceded es ts) (λ u p. let (e, i, q, r) = before u p in in_preceded u ts (s u p) e i q (s e.from r)) u p

module _ (j : Job) where
  circular_in : circular j ≡ true → (t : ℕ) × In t (remaining j.tasks j.edges (below j.tasks))
  unfolding circular
  circular_in h = some_in (remaining j.tasks j.edges (below j.tasks)) (not-true (empty (remaining j.tasks j.edges (below j.tasks))) h)

  in_circular : (t : ℕ) → In t (remaining j.tasks j.edges (below j.tasks)) → circular j ≡ true
  unfolding circular
  in_circular t i = ap not (in_some t (remaining j.tasks j.edges (below j.tasks)) i)

  -- Where the test is true there is a circle.
  pub circle_found : circular j ≡ true → Circle j
  circle_found h =
      let (t, i) = circular_in h in
      let b : (x : ℕ) → In x (below j.tasks) → x < j.tasks = in_below j.tasks in
      let c : (a : ℕ) × Chain j.edges j.tasks a j.tasks =
      longer j.edges (below j.tasks) b j.tasks 0 j.tasks t (omega arith) i (stay (b t (remaining_in j.edges j.tasks t (below j.tasks) i))) in
      chain_circle c.1

  -- Where there are tasks of the job each of which has a predecessor among them the test is true.
  endless : (P : ℕ → Type 0) → ((u : ℕ) → P u → (e : Edge) × In e j.edges × (e.to ≡ u) × P e.from) → ((u : ℕ) → P u → u < j.tasks)
      → (u : ℕ) → P u → circular j ≡ true
  endless P before b u p =
      in_circular u (stays j.edges P before j.tasks (below j.tasks) (λ u p. below_in j.tasks u (b u p)) u p)

  -- Where there is a circle the test is true.
  pub circle_seen : ((e : Edge) → In e j.edges → e.to < j.tasks) → Circle j → circular j ≡ true
  circle_seen b (t, c) = endless (Path j.edges t) (before t c) (ends t) t c
    where
      before : (t : ℕ) → Path j.edges t t → (u : ℕ) → Path j.edges t u → (e : Edge) × In e j.edges × (e.to ≡ u) × Path j.edges t e.from
      before t c u (one e i f q) = (e, i, q, rw f c)
      before t c u (more p e i f q) = (e, i, q, rw f p)

      ends : (t u : ℕ) → Path j.edges t u → u < j.tasks
      ends t u (one e i f q) = rw (← q) (b e i)
      ends t u (more p e i f q) = rw (← q) (b e i)

  -- One of these tasks precedes t.
  abbrev held : List ℕ → ℕ → Bool
  held us t = any (λ e. has e.from us) (incoming j t)

  -- Without a circle, of any tasks of the job there is one that none of them precedes.
  pub free_task : circular j ≡ false → (us : List ℕ) → ((u : ℕ) → In u us → u < j.tasks) → (u : ℕ) → In u us
      → (t : ℕ) × In t us × ((e : Edge) → In e (incoming j t) → In e.from us → ⊥)
  free_task h us b u i = by (any (λ t. not (held us t)) us) refl
    where
      before : any (λ t. not (held us t)) us ≡ false → (u : ℕ) → In u us → (e : Edge) × In e j.edges × (e.to ≡ u) × In e.from us
      before f u i =
          let (e, m, g) = any_in (λ e. has e.from us) (incoming j u) (not-false (held us u) (none_in (λ t. not (held us t)) u us f i)) in
          let (k, q) = in_incoming j u e m in
          (e, k, q, has_in e.from us g)

      by : (f : Bool) → any (λ t. not (held us t)) us ≡ f → (t : ℕ) × In t us × ((e : Edge) → In e (incoming j t) → In e.from us → ⊥)
      by true f =
          let (t, k, n) = any_in (λ t. not (held us t)) us f in
          (t, k, λ e m. not_has e.from us (none_in (λ e. has e.from us) e (incoming j t) (not-true (held us t) n) m))
      by false f = absurd (true≢false (sym (endless (λ u. In u us) (before f) b u i) ∙ h))
