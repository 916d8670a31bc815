-- The way over a run, edge by edge.
use Rattle.lists.proofs.Prelude.{◌≡◌, refl, ap, inl, inr, ⊎_elim, List, [], ◌∷◌, reverse, ℕ, zero, suc, ◌+◌, ◌-◌, ◌<◌, ◌≤◌, arith, length, nth, In, Edge}
use lib.ListN.{length-reverse_aux}
use Rattle.definitions.proofs.Lists.{in_reverse}
use Rattle.lists.proofs.Counting.{equal_or_not}
use Rattle.orders.specs.Edges.{edge_in}
use Rattle.orders.specs.Links.{run, Run}

-- The edges of a run from a on that are passed at cell k, the last of them first.
abbrev pub passed : ℕ → ℕ → List ℕ → List Edge
passed a k cells = run a (k - a) cells

module _ (a : ℕ) (cells : List ℕ) where
  pub pass_none : (k : ℕ) → k ≤ a → passed a k cells ≡ []
  unfolding run
  pass_none k h = let e : k - a ≡ 0 = omega arith in rw e

  -- A step adds the edge in cell k in front.
  pub pass_more : (k n : ℕ) → a ≤ k → n ≡ k + 1 → passed a n cells ≡ edge_in (nth cells k) ∷ passed a k cells
  unfolding run
  pass_more k n h e =
      let s : n - a ≡ suc (k - a) = omega arith in
      let p : a + (k - a) ≡ k = omega arith in
      rw s (ap (λ (i : ℕ). edge_in (nth cells i) ∷ run a (k - a) cells) p)

  run_length : (n : ℕ) → length (run a n cells) ≡ n
  unfolding run
  run_length zero = refl
  run_length (suc n) = ap suc (run_length n)

  run_member : (n i : ℕ) → i < n → In (edge_in (nth cells (a + i))) (run a n cells)
  unfolding run
  run_member zero i h = absurd (omega arith)
  run_member (suc n) i h = ⊎_elim (λ (e : i ≡ n). inl (rw e)) (λ e. inr (run_member n i (omega arith))) (equal_or_not i n)

module _ {a b : ℕ} {cells : List ℕ} {es : List Edge} (r : Run a b cells es) where
  -- The edge in each cell is one of the run's.
  pub pass_in : (k : ℕ) → a ≤ k → k < b → In (edge_in (nth cells k)) es
  pass_in k h g =
      let p : a + (k - a) ≡ k = omega arith in
      let i = run_member a cells (b - a) (k - a) (omega arith) in
      ⊎_elim (λ j. j) (λ j. absurd j) (in_reverse (edge_in (nth cells k)) es [] (rw (r.edges, p) at i))

  -- At the end all are passed.
  pub pass_all : (k : ℕ) → k ≡ b → passed a k cells ≡ reverse es
  pass_all k e = rw e r.edges

  pub pass_length : length es ≡ b - a
  pass_length = omega (arith, length-reverse_aux es [], ap length r.edges, run_length a cells (b - a))

-- A run is passed up to cell k.
pub record Passed (a b : ℕ) (cells : List ℕ) (es : List Edge) (k : ℕ) : Type 0 where
  pub run : Run a b cells es
  pub rises : a ≤ k
  pub most : k ≤ b
  pub within : b ≤ length cells

module _ {a b : ℕ} {cells : List ℕ} {es : List Edge} where
  pub pass_first : Run a b cells es → Passed a b cells es a
  pass_first r = record { run = r; rises = omega arith; most = r.rises; within = r.within }

  pub pass_last : Run a b cells es → Passed a b cells es b
  pass_last r = record { run = r; rises = r.rises; most = omega arith; within = r.within }

  module _ {k : ℕ} (w : Passed a b cells es k) where
    -- The edge in cell k is one of the run's.
    pub pass_at : k < b → In (edge_in (nth cells k)) es
    pass_at h = pass_in w.run k w.rises h

    pub pass_on : k < b → (n : ℕ) → n ≡ k + 1 → Passed a b cells es n
    pass_on h n e = record { run = w.run; rises = omega (arith, w.rises); most = omega arith; within = w.within }

    pub pass_back : (n : ℕ) → a ≤ n → k ≡ n + 1 → Passed a b cells es n
    pass_back n h e = record { run = w.run; rises = h; most = omega (arith, w.most); within = w.within }

    pub pass_done : b ≤ k → passed a k cells ≡ reverse es
    pass_done h = pass_all w.run k (omega (arith, w.most))
