-- When processors are ready before their first replicas.
use mathlib.Core.Path.{◌≡◌, refl}
use Prim.Native.Nat.{ℕ}
use Rattle.definitions.specs.Job.{Job}
use Rattle.definitions.specs.Times.{tick, first_ready}

pub first_ready_lem : (j : Job) (p : ℕ) → first_ready j p ≡ tick 0
unfolding first_ready
first_ready_lem j p = refl
