-- What a stop leaves of a finish; stops that come when all is done on their processors change nothing.
use Rattle.std.specs.Prelude.{if◌then◌else◌}
use mathlib.Core.Path.{◌≡◌, refl, ap}
use mathlib.Core.Logic.{◌⊎◌, inl, inr}
use mathlib.Core.List.{List, [], ◌∷◌}
use mathlib.Core.Bool.{Bool, true, false}
use Prim.Native.Nat.{ℕ}
use lib.Dec.{leb, eqb}
use borrow.Author.Tests.{eqb-true, le-leb}
use Rattle.definitions.specs.Lists.{In}
use Rattle.definitions.specs.Job.{Job}
use Rattle.definitions.specs.Plan.{Line}
use Rattle.definitions.specs.Stops.{Stop}
use Rattle.definitions.specs.Times.{Time, tick, never, least, Placement, Outcome, outcome, stop_time, unless_stopped, finish, walk, placements}
use Rattle.definitions.specs.Replay.{replay}
use Rattle.definitions.specs.Claims.{Within, Outlast}

-- A finish at or before its processor's stop stays.
in_time : (s : ℕ) (x : Time) → Within s x → unless_stopped (tick s) x ≡ x
in_time s (tick x) h = rw (le-leb x s h)
in_time s never h = refl

-- A stop leaves a finish as it is, or it never comes.
pub stopped : (s x : Time) → (unless_stopped s x ≡ x) ⊎ (unless_stopped s x ≡ never)
stopped never x = inl refl
stopped (tick s) never = inl refl
stopped (tick s) (tick x) = by (leb x s)
  where
    by : (b : Bool) → ((if b then tick x else never) ≡ tick x) ⊎ ((if b then tick x else never) ≡ never)
    by true = inl refl
    by false = inr refl

outlasted : (stops : List Stop) (p : ℕ) (x : Time) → ((s : Stop) → In s stops → s.processor ≡ p → Within s.tick x)
    → unless_stopped (stop_time stops p) x ≡ x
unfolding stop_time
outlasted [] p x h = refl
outlasted (s ∷ stops) p x h = by (eqb s.processor p) refl (outlasted stops p x (λ r i. h r (inr i)))
  where
    by : (b : Bool) → eqb s.processor p ≡ b → unless_stopped (stop_time stops p) x ≡ x
        → unless_stopped (if b then tick s.tick else stop_time stops p) x ≡ x
    by true e r = in_time s.tick x (h s (inl refl) (eqb-true s.processor p e))
    by false e r = r

walk_late : (j : Job) (stops : List Stop) (placed : List Outcome) (cs : List Placement) → Outlast stops (walk j least [] placed cs)
    → walk j least stops placed cs ≡ walk j least [] placed cs
unfolding walk finish stop_time
walk_late j stops placed [] h = refl
walk_late j stops placed (c ∷ cs) h =
    let x = finish j least [] placed c in
    let e = outlasted stops c.processor x (λ s i q. h s i (outcome c x) (inl refl) q) in
    rw e (ap {B = List Outcome} (λ r. outcome c x ∷ r) (walk_late j stops (outcome c x ∷ placed) cs (λ s i d k. h s i d (inr k))))

-- The replay is as with no stop.
pub late_replay : (j : Job) (stops : List Stop) (ns : List Line) → Outlast stops (replay j [] ns) → replay j stops ns ≡ replay j [] ns
unfolding replay
late_replay j stops ns h = walk_late j stops [] (placements j ns) h
