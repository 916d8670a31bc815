-- One turn of the planner: the free tasks, the critical one, its line, and what waits after it.
use Rattle.std.specs.Prelude.{if◌then◌else◌}
use Rattle.lists.proofs.Prelude.{◌≡◌, refl, ap, ap₂, ◌∙◌, sym, inl, inr, List, [], ◌∷◌, ◌++◌, map, map-map, reverse_aux, Bool, true, false, not, ◌&&◌, ℕ, zero, suc, ◌+◌, ◌-◌, ◌<◌, arith, ne_eqb, eqb, ltb, length, In, nth, keep, all, count_from, below, Job, least, largest, Placement, Outcome, finish, walk, placements_of, placement_of, tick_of, Waiting, waiting_from, free_tasks, ranked, trial, goes_before, replicas, place}
use mathlib.Core.Bool.{and_comm}
use Rattle.definitions.specs.Planner.{critical_task, chosen}
use Rattle.definitions.proofs.Lists.{in_keep, in_below, nth_in, nth_below}
use Rattle.choices.specs.Choices.{is_chosen, chosen_of}
use Rattle.definitions.proofs.Placing.{greatest_in}
use Rattle.rounds.specs.Planning.{critical_of}
use Rattle.lists.proofs.ListLaws.{keep_same, keep_keep}

-- Lists -----------------------------------------------------------------------------------------------------------

keep_append : {A : Type 0} (f : A → Bool) (xs ys : List A) → keep f (xs ++ ys) ≡ keep f xs ++ keep f ys
unfolding keep
keep_append f [] ys = refl
keep_append f (x ∷ xs) ys = by (f x) (keep_append f xs ys)
  where
    by : (b : Bool) → keep f (xs ++ ys) ≡ keep f xs ++ keep f ys
        → (if b then x ∷ keep f (xs ++ ys) else keep f (xs ++ ys)) ≡ (if b then x ∷ keep f xs else keep f xs) ++ keep f ys
    by true e = ap (x ∷◌) e
    by false e = e

-- The numbers below n + m + 1, parted at n.
below_at : (k n m : ℕ) → count_from k (n + suc m) ≡ count_from k n ++ (k + n) ∷ count_from (suc (k + n)) m
unfolding count_from
below_at k zero m = let e : k + 0 ≡ k = omega arith in let z : 0 + suc m ≡ suc m = omega arith in rw (e, z)
below_at k (suc n) m = let e : suc k + n ≡ k + suc n = omega arith in let z : suc n + suc m ≡ suc (n + suc m) = omega arith in rw (z, ← e) (ap (k ∷◌) (below_at (suc k) n m))

-- A number that is kept, and those before and behind it.
pub keep_at : (f : ℕ → Bool) (t v : ℕ) → t < v → f t ≡ true → keep f (below v) ≡ keep f (below t) ++ t ∷ keep f (count_from (suc t) (v - suc t))
unfolding keep
keep_at f t v h e =
    let whole : v ≡ t + suc (v - suc t) = omega arith in
    let none : 0 + t ≡ t = omega arith in
    ap (λ (k : ℕ). keep f (below k)) whole ∙ rw (below_at 0 t (v - suc t), none, keep_append f (below t) (t ∷ count_from (suc t) (v - suc t)), e)

pub keep_swap : {A : Type 0} (f g : A → Bool) (xs : List A) → keep f (keep g xs) ≡ keep g (keep f xs)
keep_swap f g xs = keep_keep f g xs ∙ keep_same (λ x. g x && f x) (λ x. f x && g x) xs (λ x i. and_comm (g x) (f x)) ∙ sym (keep_keep g f xs)

-- Those that f keeps are those that g keeps, and those that h keeps besides.
pub count_split : {A : Type 0} (f g h : A → Bool) (xs : List A)
    → ((x : A) → In x xs → (h x ≡ true → (f x ≡ true) × (g x ≡ false)) × (h x ≡ false → f x ≡ g x))
    → length (keep f xs) ≡ length (keep g xs) + length (keep h xs)
unfolding keep
count_split f g h [] p = refl
count_split {A} f g h (x ∷ xs) p = by (h x) refl (count_split f g h xs (λ y i. p y (inr i)))
  where
    same : (b : Bool) → length (keep f xs) ≡ length (keep g xs) + length (keep h xs)
        → length (if b then x ∷ keep f xs else keep f xs) ≡ length (if b then x ∷ keep g xs else keep g xs) + length (keep h xs)
    same true r = omega arith
    same false r = r

    by : (b : Bool) → h x ≡ b → length (keep f xs) ≡ length (keep g xs) + length (keep h xs)
        → length (if f x then x ∷ keep f xs else keep f xs)
        ≡ length (if g x then x ∷ keep g xs else keep g xs) + length (if b then x ∷ keep h xs else keep h xs)
    by true e r = let (a, c) = (p x (inl refl)).0 e in rw (a, c) (omega arith)
    by false e r = rw ((p x (inl refl)).1 e) (same (g x) r)

pub count_reverse : {A : Type 0} (f : A → Bool) (xs ys : List A) → length (keep f (reverse_aux xs ys)) ≡ length (keep f xs) + length (keep f ys)
unfolding keep
count_reverse f [] ys = omega arith
count_reverse f (x ∷ xs) ys = count_reverse f xs (x ∷ ys) ∙ by (f x)
  where
    by : (b : Bool) → length (keep f xs) + length (if b then x ∷ keep f ys else keep f ys) ≡ length (if b then x ∷ keep f xs else keep f xs) + length (keep f ys)
    by true = omega arith
    by false = refl

-- None is kept exactly if f is true of none.
pub none_kept : {A : Type 0} (f : A → Bool) (xs : List A) → eqb (length (keep f xs)) 0 ≡ all (λ x. not (f x)) xs
unfolding keep all
none_kept f [] = refl
none_kept f (x ∷ xs) = by (f x) (none_kept f xs)
  where
    by : (b : Bool) → eqb (length (keep f xs)) 0 ≡ all (λ x. not (f x)) xs
        → eqb (length (if b then x ∷ keep f xs else keep f xs)) 0 ≡ (not b && all (λ x. not (f x)) xs)
    by true e = ne_eqb (suc (length (keep f xs))) 0 (λ q. omega arith)
    by false e = e

-- The greatest is one of them ---------------------------------------------------------------------------------------

pub critical_in : (d : ℕ) (xs : List (ℕ × ℕ)) → 0 < length xs → In (critical_of d xs) (map (λ y. y.0) xs)
critical_in d [] h = absurd (omega arith)
critical_in d (x ∷ xs) h = greatest_in x xs

-- The tasks that wait at first: the numbers from k on, with their bottom levels.
pub waiting_from_lem : (f : ℕ → ℕ) (k n : ℕ) → waiting_from k (map f (count_from k n)) ≡ map (λ t. record { task = t; bottom = f t }) (count_from k n)
unfolding waiting_from count_from
waiting_from_lem f k zero = refl
waiting_from_lem f k (suc n) = ap₂ ◌∷◌ refl (waiting_from_lem f (suc k) n)

-- A turn of the planner ---------------------------------------------------------------------------------------------

module _ (j : Job) (losses n : ℕ) (waiting : List Waiting) (es ls : List Outcome) (h : 0 < length (place j losses (suc n) waiting es ls)) where
  pub some_free : 0 < length (free_tasks j es waiting)
  unfolding place
  some_free = by (free_tasks j es waiting) refl
    where
      by : (fs : List Waiting) → free_tasks j es waiting ≡ fs → 0 < length fs
      by [] e = absurd (omega (arith, rw (e, place) at h))
      by (w ∷ ws) e = omega arith

  -- The task of greatest rank among these is placed, and the others wait.
  abbrev Turn : ℕ → List Waiting → Type 0
  Turn d fs =
      let t = critical_of d (map (ranked j es) fs) in
      let cs = placements_of j t (chosen j (losses + 1) (trial j es t)) in
      let e = walk j least [] es cs in
      let x = walk j largest [] ls cs in
      place j losses (suc n) waiting es ls
      ≡ record { task = t; replicas = replicas e x } ∷ place j losses n (keep (λ w. not (eqb w.task t)) waiting) (reverse_aux e es) (reverse_aux x ls)

  pub place_turn : (d : ℕ) → Turn d (free_tasks j es waiting)
  unfolding place critical_task
  place_turn d = by (free_tasks j es waiting) refl some_free
    where
      by : (fs : List Waiting) → free_tasks j es waiting ≡ fs → 0 < length fs → Turn d fs
      by [] e g = absurd (omega arith)
      by (w ∷ ws) e g = rw (e, place)

-- A line's replicas -------------------------------------------------------------------------------------------------

pub replicas_map : (f g : ℕ → Outcome) (ps : List ℕ)
    → replicas (map f ps) (map g ps) ≡ map (λ p. record { processor = (f p).processor; early = tick_of (f p).time; late = tick_of (g p).time }) ps
unfolding replicas
replicas_map f g [] = refl
replicas_map f g (p ∷ ps) = ap₂ ◌∷◌ refl (replicas_map f g ps)

-- The processors that are chosen ------------------------------------------------------------------------------------

pub chosen_same : (j : Job) (w : ℕ) (xs ys : List ℕ) → ((p : ℕ) → p < j.processors → nth xs p ≡ nth ys p) → chosen_of w j.processors xs ≡ chosen j w ys
unfolding chosen
chosen_same j w xs ys h =
    let m = j.processors in
    keep_same (is_chosen w m xs) (is_chosen w m ys) (below m)
    (λ p i. ap (λ (ps : List ℕ). ltb (length ps) w)
    (keep_same (goes_before xs p) (goes_before ys p) (below m) (λ q k. rw (h p (in_below m p i), h q (in_below m q k)))))

pub trial_nth : (j : Job) (placed : List Outcome) (t p : ℕ) → p < j.processors → nth (trial j placed t) p ≡ tick_of (finish j least [] placed (placement_of j t p))
unfolding trial
trial_nth j placed t p h =
    let f : Placement → ℕ = λ c. tick_of (finish j least [] placed c) in
    ap (λ (xs : List ℕ). nth xs p) (map-map f (placement_of j t) (below j.processors)) ∙ nth_below (λ p. f (placement_of j t p)) j.processors p h

-- Number c of those chosen is a processor.
pub chosen_nth : (j : Job) (w : ℕ) (xs : List ℕ) (c : ℕ) → c < length (chosen j w xs) → nth (chosen j w xs) c < j.processors
unfolding chosen
chosen_nth j w xs c h = in_below j.processors _ (in_keep (is_chosen w j.processors xs) _ (below j.processors) (nth_in (chosen j w xs) c h)).0
