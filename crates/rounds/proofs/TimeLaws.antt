-- Times in cells: the later and the sooner, what comes after, and when data arrives.
use Rattle.std.specs.Prelude.{if◌then◌else◌}
use Rattle.lists.proofs.Prelude.{◌≡◌, refl, ap, ◌∙◌, sym, ◌⊎◌, inl, inr, ⊎_elim, List, [], ◌∷◌, map, reverse_aux, Bool, true, false, ℕ, ◌+◌, ◌*◌, ◌-◌, ◌<◌, ◌≤◌, max, min, arith, mul-le-mul, eq-eqb, ne_eqb, eqb-true, eqb, nth, In, greatest, Edge, incoming, Time, tick, never, later, sooner, least, largest, Limits}
use Rattle.definitions.specs.Claims.{Within}
use Rattle.definitions.proofs.Tasks.{in_incoming}
use Rattle.definitions.proofs.Later.{later_comm, later_assoc, later_zero}
use Rattle.orders.specs.Edges.{edge_in}
use Rattle.orders.proofs.Walk.{passed, pass_none, pass_more, Passed, pass_done}
use Rattle.heads.specs.Layout.{line_at, replicas_most}
use Rattle.jobs.specs.Held.{job_in}
use Rattle.jobs.specs.Tables.{message_most, line_ticks, last_short, Tabled}
use Rattle.ticks.specs.Cells.{never_cell, time_in, Small}
use Rattle.plans.specs.Lines.{LinesHeld}
use Rattle.rounds.specs.Schedule.{choice_of, PredecessorsPlaced}
use Rattle.rounds.specs.Walks.{Feeds}
use Rattle.lists.proofs.Counting.{equal_or_not}
use Rattle.rounds.proofs.Placed.{line_in_lem}
use Rattle.jobs.proofs.Held.{sizes, tasks_in_lem}

-- Times in cells --------------------------------------------------------------------------------------------------

pub time_tick : (x : ℕ) → (x ≡ never_cell → ⊥) → time_in x ≡ tick x
time_tick x h = rw (ne_eqb x never_cell h)

-- Cells in which n, the greatest, is never: the later or the sooner of two.
module _ (n : ℕ) where
  abbrev cell_time : ℕ → Time
  cell_time x = if eqb x n then never else tick x

  module _ (x y r : ℕ) (h : x ≤ n) (g : y ≤ n) where
    later_cases : r ≡ max x y → (x ≡ n) ⊎ (x ≡ n → ⊥) → (y ≡ n) ⊎ (y ≡ n → ⊥) → cell_time r ≡ later (cell_time x) (cell_time y)
    later_cases e (inl p) _ = rw (eq-eqb x n p, eq-eqb r n (omega arith))
    later_cases e (inr p) (inl q) = rw (ne_eqb x n p, eq-eqb y n q, eq-eqb r n (omega arith))
    later_cases e (inr p) (inr q) = rw (ne_eqb x n p, ne_eqb y n q, ne_eqb r n (λ z. p (omega arith)), e)

    sooner_cases : r ≡ min x y → (x ≡ n) ⊎ (x ≡ n → ⊥) → (y ≡ n) ⊎ (y ≡ n → ⊥) → cell_time r ≡ sooner (cell_time x) (cell_time y)
    sooner_cases e (inl p) _ = let m : r ≡ y = omega arith in rw (eq-eqb x n p, m)
    sooner_cases e (inr p) (inl q) = let m : r ≡ x = omega arith in rw (m, ne_eqb x n p, eq-eqb y n q)
    sooner_cases e (inr p) (inr q) = rw (ne_eqb x n p, ne_eqb y n q, ne_eqb r n (λ z. p (omega arith)), e)

    pub later_cells : r ≡ max x y → cell_time r ≡ later (cell_time x) (cell_time y)
    later_cells e = later_cases e (equal_or_not x n) (equal_or_not y n)

    pub sooner_cells : r ≡ min x y → cell_time r ≡ sooner (cell_time x) (cell_time y)
    sooner_cells e = sooner_cases e (equal_or_not x n) (equal_or_not y n)

pub none_late : time_in 0 ≡ choice_of true []
unfolding largest
none_late = refl

pub none_early : time_in never_cell ≡ choice_of false []
unfolding least
none_early = refl

-- Small cells -----------------------------------------------------------------------------------------------------

pub small_wider : (b c x : ℕ) → b ≤ c → Small b x → Small c x
small_wider b c x h = ⊎_elim inl (λ l. inr (omega arith))

pub small_tick : (b x : ℕ) → (x ≡ never_cell → ⊥) → Small b x → x ≤ b
small_tick b x h = ⊎_elim (λ e. absurd (h e)) (λ l. l)

-- A cell is small as its time does not pass the bound.
pub small_within : (b x : ℕ) → Small b x → Within b (time_in x)
small_within b x (inl e) = rw (eq-eqb x never_cell e) tt
small_within b x (inr l) = by (eqb x never_cell)
  where
    by : (v : Bool) → Within b (if v then never else tick x)
    by true = tt
    by false = l

pub within_small : (b x : ℕ) → Within b (time_in x) → Small b x
within_small b x = by (eqb x never_cell) refl
  where
    by : (v : Bool) → eqb x never_cell ≡ v → Within b (if v then never else tick x) → Small b x
    by true e h = inl (eqb-true x never_cell e)
    by false e h = inr h

-- The ticks of a message.
pub message_most_lem : (lim : Limits) (volume n : ℕ) → volume ≤ lim.volume → n ≤ lim.delay → volume * n ≤ message_most lim
message_most_lem lim volume n h g = mul-le-mul {n₁ = volume} {m₁ = n} {n₂ = lim.volume} {m₂ = lim.delay} h g

-- As many runs and messages as a round has replicas at most are short, and in a plan's range.
pub round_most : {lim : Limits} → Tabled lim → (n : ℕ) → n ≤ lim.tasks * replicas_most → (n * line_ticks lim ≤ last_short) × (n * line_ticks lim ≤ lim.tick)
round_most {lim} u n h =
    let m = mul-le-mul {n₁ = n} {m₁ = line_ticks lim} {n₂ = lim.tasks * replicas_most} {m₂ = line_ticks lim} h (omega arith) in
    (omega (arith, m, u.round_short), omega (arith, m, u.round_range))

-- All data of a task ------------------------------------------------------------------------------------------------

pub largest_reverse : {A : Type 0} (f : A → Time) (xs ys : List A) → largest (map f (reverse_aux xs ys)) ≡ later (largest (map f xs)) (largest (map f ys))
unfolding largest
largest_reverse f [] ys = sym (later_zero (largest (map f ys)))
largest_reverse f (x ∷ xs) ys =
    largest_reverse f xs (x ∷ ys) ∙ sym (later_assoc (largest (map f xs)) (f x) (largest (map f ys)))
    ∙ ap (λ (z : Time). later z (largest (map f ys))) (later_comm (largest (map f xs)) (f x))

-- The largest of some ticks.
pub largest_ticks : {A : Type 0} (f : A → ℕ) (xs : List A) → largest (map (λ x. tick (f x)) xs) ≡ tick (greatest (map f xs))
unfolding largest greatest
largest_ticks f [] = refl
largest_ticks f (x ∷ xs) = rw (largest_ticks f xs)

-- The largest time of the edges that are passed at cell k of a run from a on.
abbrev pub gathered : (Edge → Time) → ℕ → List ℕ → ℕ → Time
gathered f a cells k = largest (map f (passed a k cells))

pub gather_none : (f : Edge → Time) (a : ℕ) (cells : List ℕ) → tick 0 ≡ gathered f a cells a
unfolding largest
gather_none f a cells = rw (pass_none a cells a (omega arith))

module _ (f : Edge → Time) {a b k : ℕ} {cells : List ℕ} {es : List Edge} (w : Passed a b cells es k) where
  pub gather_next : (n : ℕ) → n ≡ k + 1 → later (gathered f a cells k) (f (edge_in (nth cells k))) ≡ gathered f a cells n
  unfolding largest
  gather_next n e = rw (pass_more a cells k n w.rises e) (later_comm (gathered f a cells k) (f (edge_in (nth cells k))))

  pub gather_done : b ≤ k → gathered f a cells k ≡ largest (map f es)
  unfolding largest
  gather_done h = rw (pass_done w h) (largest_reverse f es [] ∙ later_comm (largest (map f es)) (tick 0) ∙ later_zero (largest (map f es)))

-- What the code asks of an edge that enters t.
pub feeds : {lim : Limits} {capacity k : ℕ} {mem : List ℕ} {e : Edge} (t : ℕ) → LinesHeld lim capacity k mem
    → PredecessorsPlaced capacity t mem → In e (incoming (job_in mem) t) → Feeds lim capacity e mem
feeds {capacity} {mem = mem} {e} t s f i =
    let (m, _) = in_incoming (job_in mem) t e i in
    let b : e.from < nth mem 0 = rw (tasks_in_lem mem) at (s.job.facts.from_task e m) in
    let l = f e i in
    let n = nth mem (line_at capacity + e.from) - 1 in
    let (g, _) = line_in_lem s e.from n b (omega arith) in
    let w = sizes s.job in
    let h = s.count in
    record { from_below = b; volume_most = s.job.facts.volume_most e m; line_some = l; line_most = omega arith; row = s.row n g }
