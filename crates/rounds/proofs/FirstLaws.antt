-- The first finish of a task, and the lowest processor that has it.
use Rattle.std.specs.Prelude.{if◌then◌else◌}
use Rattle.lists.proofs.Prelude.{◌≡◌, never, refl, subst, ap, ◌∙◌, sym, ◌⊎◌, inl, inr, ⊎_elim, List, [], ◌∷◌, map, Bool, true, false, false≢true, ℕ, zero, suc, ◌+◌, ◌-◌, ◌<◌, ◌≤◌, min, arith, add-one, eqb-true, ltb-true, ltb-false, eqb, ltb, length, nth, In, keep, Time, tick, sooner, same, least, Outcome, times, first_finish, lowest, first_processor, Limits}
use Rattle.definitions.proofs.Lists.{in_map, map_in, in_keep, keep_in}
use Rattle.definitions.proofs.Guarantee.{time_same}
use Rattle.heads.specs.Layout.{line_at, processor_at, early_at}
use Rattle.ticks.specs.Cells.{never_cell, time_in}
use Rattle.plans.specs.Lines.{row_outcomes, row_end, row_of, LinesHeld}
use Rattle.replicas.specs.Cells.{on_cell, early_cell, least_early, least_on}
use Rattle.replicas.proofs.TwiceLaws.{least_none, least_sooner, least_stays}
use Rattle.rounds.specs.Replaying.{RisingIn, FirstIn}
use Rattle.lists.proofs.Counting.{equal_or_not, last_or_before}
use Rattle.rounds.proofs.TimeLaws.{time_tick, sooner_cells}
use Rattle.rounds.proofs.Placed.{row_outcome, in_row, row_in, placed_row_of}
use Rattle.rounds.proofs.MakespanLaws.{all_placed, row_of_task, cells_of_task}

-- Least times ---------------------------------------------------------------------------------------------------------

-- A time does not come before x.
abbrev NotBefore : ℕ → Time → Type 0
NotBefore x (tick y) = x ≤ y
NotBefore x never = Unit {0}

sooner_both : (x : ℕ) (y z : Time) → NotBefore x (sooner y z) → NotBefore x y × NotBefore x z
sooner_both x (tick y) (tick z) h = (omega arith, omega arith)
sooner_both x (tick y) never h = (h, tt)
sooner_both x never z h = (tt, h)

sooner_one : (x : ℕ) (y z : Time) → sooner y z ≡ tick x → (y ≡ tick x) ⊎ (z ≡ tick x)
sooner_one x (tick y) (tick z) e =
    let m : min y z ≡ x = cc in
    ⊎_elim (λ (q : min y z ≡ y). let r : y ≡ x = omega arith in inl (ap tick r)) (λ n. let r : z ≡ x = omega arith in inr (ap tick r)) (equal_or_not (min y z) y)
sooner_one x (tick y) never e = inl e
sooner_one x never z e = inr e

least_most : (x : ℕ) (ys : List Time) → NotBefore x (least ys) → (y : Time) → In y ys → NotBefore x y
unfolding least
least_most x [] h y x3 = elim x3 [ ]
least_most x (z ∷ ys) h y (inl e) = rw e at (sooner_both x z (least ys) h).0
least_most x (z ∷ ys) h y (inr i) = least_most x ys (sooner_both x z (least ys) h).1 y i

least_in : (x : ℕ) (ys : List Time) → least ys ≡ tick x → In (tick x) ys
unfolding least
least_in x [] e = absurd (let z : ◌≡◌ {A = ℕ} 0 1 = cc in omega arith)
least_in x (y ∷ ys) e = ⊎_elim inl (λ q. inr (least_in x ys q)) (sooner_one x y (least ys) e)

-- Times with the same members have the same least one.
pub least_same : (xs ys : List Time) → ((x : Time) → In x xs → In x ys) → ((x : Time) → In x ys → In x xs) → least xs ≡ least ys
least_same xs ys f g = by (least xs) (least ys) refl refl
  where
    by : (a b : Time) → least xs ≡ a → least ys ≡ b → a ≡ b
    by (tick a) (tick b) p q =
        let u : b ≤ a = least_most b ys (rw q (omega arith)) (tick a) (f (tick a) (least_in a xs p)) in
        let v : a ≤ b = least_most a xs (rw p (omega arith)) (tick b) (g (tick b) (least_in b ys q)) in
        let e : a ≡ b = omega arith in
        ap tick e
    by (tick a) never p q = absurd (let u : suc a ≤ a = least_most (suc a) ys (rw q tt) (tick a) (f (tick a) (least_in a xs p)) in omega arith)
    by never (tick b) p q = absurd (let u : suc b ≤ b = least_most (suc b) xs (rw p tt) (tick b) (g (tick b) (least_in b ys q)) in omega arith)
    by never never p q = refl

-- Lowest processors ---------------------------------------------------------------------------------------------------

lowest_most : (q : ℕ) (ps : List ℕ) → In q ps → lowest ps ≤ q
unfolding lowest
lowest_most q [] x' = elim x' [ ]
lowest_most q (p ∷ []) (inr i) = elim i [ ]
lowest_most q (p ∷ []) (inl e) = omega arith
lowest_most q (p ∷ r ∷ ps) (inl e) = omega arith
lowest_most q (p ∷ r ∷ ps) (inr i) = omega (arith, lowest_most q (r ∷ ps) i)

lowest_in : (p : ℕ) (ps : List ℕ) → In (lowest (p ∷ ps)) (p ∷ ps)
unfolding lowest
lowest_in p [] = inl refl
lowest_in p (r ∷ ps) =
    let l = lowest (r ∷ ps) in
    ⊎_elim (λ e. inl (sym e)) (λ n. let e : min p l ≡ l = omega arith in subst (λ (z : ℕ). In z (p ∷ r ∷ ps)) (sym e) (inr (lowest_in r ps))) (equal_or_not (min p l) p)

lowest_is : (p : ℕ) (ps : List ℕ) → In p ps → ((q : ℕ) → In q ps → p ≤ q) → p ≡ lowest ps
lowest_is p [] i h = elim i [ ]
lowest_is p (r ∷ ps) i h = omega (arith, lowest_most p (r ∷ ps) i, h (lowest (r ∷ ps)) (lowest_in r ps))

pub lowest_same : (ps qs : List ℕ) → ((p : ℕ) → In p ps → In p qs) → ((p : ℕ) → In p qs → In p ps) → lowest ps ≡ lowest qs
lowest_same [] [] f g = refl
lowest_same [] (q ∷ qs) f g = absurd (g q (inl refl))
lowest_same (p ∷ ps) qs f g = lowest_is (lowest (p ∷ ps)) qs (f (lowest (p ∷ ps)) (lowest_in p ps)) (λ q i. lowest_most q (p ∷ ps) (g q i))

-- Cells that hold the same tick.
cell_same : (x y : ℕ) → (y ≡ never_cell → ⊥) → same (time_in x) (time_in y) ≡ true → x ≡ y
cell_same x y n e = by (eqb x never_cell) (rw (time_tick y n) at e)
  where
    by : (b : Bool) → same (if b then never else tick x) (tick y) ≡ true → x ≡ y
    by true e = absurd (false≢true e)
    by false e = eqb-true x y e

-- The replicas of a line --------------------------------------------------------------------------------------------------

-- x is the least early time of the first c replicas of the line at a, and if one of them finishes, p is the lowest processor that has it.
record FirstAt (mem : List ℕ) (a c x p : ℕ) : Type 0 where
  pub least_time : time_in x ≡ least (times (row_outcomes false a c mem))
  pub most : (x ≤ never_cell) × ((i : ℕ) → i < c → x ≤ nth mem (early_at a i))
  pub found : (x ≡ never_cell → ⊥) → (i : ℕ) × (i < c) × (nth mem (early_at a i) ≡ x) × (nth mem (processor_at a i) ≡ p)
  pub lowest_of : (x ≡ never_cell → ⊥) → (i : ℕ) → i < c → nth mem (early_at a i) ≡ x → p ≤ nth mem (processor_at a i)

first_none : (mem : List ℕ) (a p : ℕ) → FirstAt mem a 0 never_cell p
unfolding row_outcomes least
first_none mem a p =
    record { least_time = refl; most = (omega arith, λ i h. absurd (omega arith)); found = λ n. absurd (n refl); lowest_of = λ n i h. absurd (omega arith) }

module _ {mem : List ℕ} {a c x p : ℕ} (f : FirstAt mem a c x p) where
  -- One more replica, on a processor that is not lower, finishes sooner, or it does not.
  first_sooner : nth mem (early_at a c) < x → FirstAt mem a (c + 1) (nth mem (early_at a c)) (nth mem (processor_at a c))
  unfolding row_outcomes least
  first_sooner l =
      let y = nth mem (early_at a c) in
      let m = f.most.0 in
      record {
        least_time = sooner_cells never_cell y x y (omega arith) m (omega arith) ∙ rw (f.least_time, add-one c);
        most = (omega arith, λ i h. ⊎_elim (λ (e : i ≡ c). rw e (omega arith)) (λ h. omega (arith, f.most.1 i h)) (last_or_before c i (omega arith)));
        found = λ n. (c, omega arith, refl, refl);
        lowest_of = λ n i h e. ⊎_elim (λ (q : i ≡ c). rw q (omega arith)) (λ h. absurd (omega (arith, f.most.1 i h))) (last_or_before c i (omega arith));
      }

  first_stays : x ≤ nth mem (early_at a c) → nth mem (early_at a c) ≤ never_cell → ((i : ℕ) → i < c → nth mem (processor_at a i) ≤ nth mem (processor_at a c))
      → FirstAt mem a (c + 1) x p
  unfolding row_outcomes least
  first_stays l n up =
      record {
        least_time = sooner_cells never_cell (nth mem (early_at a c)) x x n f.most.0 (omega arith) ∙ rw (f.least_time, add-one c);
        most = (f.most.0, λ i h. ⊎_elim (λ (e : i ≡ c). rw e l) (f.most.1 i) (last_or_before c i (omega arith)));
        found = λ n. let (i, h, q, o) = f.found n in (i, omega arith, q, o);
        lowest_of = λ n i h e. ⊎_elim (λ (q : i ≡ c). let (k, b, _, o) = f.found n in rw q (omega (arith, up k b))) (λ b. f.lowest_of n i b e) (last_or_before c i (omega arith));
      }

-- The first of a task ---------------------------------------------------------------------------------------------------

-- Where its line is.
pub task_room : {lim : Limits} {capacity a : ℕ} {mem : List ℕ} → LinesHeld lim capacity (nth mem 0) mem → (t : ℕ) → t < nth mem 0 → a ≡ row_of capacity t mem
    → (row_end a ≤ length mem) × (nth mem 3 ≤ lim.losses)
task_room s t h e = let (_, b, d) = cells_of_task s t h in (rw e b, d)

module _ {lim : Limits} {capacity : ℕ} {mem : List ℕ} (s : LinesHeld lim capacity (nth mem 0) mem) (r : RisingIn capacity mem) (t : ℕ) (h : t < nth mem 0) where
  abbrev line : ℕ
  line = nth mem (line_at capacity + t) - 1

  abbrev own : ℕ
  own = row_of capacity t mem

  line_below : line < nth mem 0
  line_below = omega (arith, all_placed s t h, (row_of_task s t h).1)

  -- Its early times fit a cell.
  early_small : (c : ℕ) → c < nth mem 3 + 1 → nth mem (early_at own c) ≤ never_cell
  early_small c g = ⊎_elim (λ (e : nth mem (early_at own c) ≡ never_cell). omega arith) (λ m. omega (arith, m, s.job.suited.tick_fits)) ((s.row line line_below).early_of c g)

  -- A line's processors before a place are not higher than the one at it.
  rising_row : (c i : ℕ) → c < nth mem 3 + 1 → i < c → nth mem (processor_at own i) ≤ nth mem (processor_at own c)
  rising_row zero i g l = elim l [ ]
  rising_row (suc c) i g l =
      let up : nth mem (processor_at own c) ≤ nth mem (processor_at own (suc c)) = rw (add-one c) at (r line c line_below (omega arith)) in
      ⊎_elim (λ (e : i ≡ c). rw e up) (λ b. omega (arith, rising_row c i (omega arith) b)) (last_or_before c i l)

  first_all : (x p : ℕ) → FirstAt mem own (nth mem 3 + 1) x p → FirstIn capacity t x p mem
  unfolding first_finish first_processor
  first_all x p f =
      let w = nth mem 3 + 1 in
      let same_time : Outcome → Bool = λ d. same d.time (time_in x) in
      let on : Outcome → ℕ = λ d. d.processor in
      let ds = row_outcomes false own w mem in
      let of-line = placed_row_of s false w (nth mem 0) (omega arith) t h (all_placed s t h) (row_of_task s t h).1 in
      record {
        finish = rw of-line f.least_time;
        lowest_on = λ n.
            let (i, l, e, q) = f.found n in
            let here : In (nth mem (processor_at own i)) (map on (keep same_time ds)) =
            map_in on (row_outcome false own i mem) (keep same_time ds) (keep_in same_time _ ds (row_in false mem own w i l) (rw e (time_same (time_in x)))) in
            rw of-line
            (lowest_is p (map on (keep same_time ds)) (rw q at here) (λ b k.
            let (d, m, z) = in_map on b (keep same_time ds) k in
            let (m, z') = in_keep same_time d ds m in
            let (c, l, g) = in_row false mem own w d m in
            rw (← z, g) (f.lowest_of n c l (cell_same (nth mem (early_at own c)) x n (rw g at z')))));
      }

  -- The cells of the task's replicas, and what is seen in them.
  module _ (cells : List ℕ) (on : (c : ℕ) → c < nth mem 3 + 1 → nth cells (on_cell c) ≡ nth mem (processor_at own c))
      (early : (c : ℕ) → c < nth mem 3 + 1 → nth cells (early_cell c) ≡ nth mem (early_at own c)) where
    first_to : (c : ℕ) → c ≤ nth mem 3 + 1 → FirstAt mem own c (least_early c cells) (least_on c cells)
    first_to zero l = let (e, f) = least_none cells in rw (e, f) (first_none mem own 0)
    first_to (suc c) l = rw (← add-one c) (by (ltb (nth cells (early_cell c)) (least_early c cells)) refl (first_to c (omega arith)))
      where
        by : (b : Bool) → ltb (nth cells (early_cell c)) (least_early c cells) ≡ b → FirstAt mem own c (least_early c cells) (least_on c cells)
            → FirstAt mem own (c + 1) (least_early (c + 1) cells) (least_on (c + 1) cells)
        by true e f =
            let g = ltb-true _ _ e in
            let (p, q) = least_sooner cells c g in
            rw (← p, ← q, early c l, on c l) (first_sooner f (rw (early c l) at g))
        by false e f =
            let g = ltb-false _ _ e in
            let (p, q) = least_stays cells c g in
            rw (← p, ← q) (first_stays f (rw (early c l) at g) (early_small c (omega arith)) (λ i b. rising_row c i l b))

    pub first_seen : (w : ℕ) → w ≡ nth mem 3 + 1 → FirstIn capacity t (least_early w cells) (least_on w cells) mem
    first_seen w e = rw e (first_all (least_early (nth mem 3 + 1) cells) (least_on (nth mem 3 + 1) cells) (first_to (nth mem 3 + 1) (omega arith)))
