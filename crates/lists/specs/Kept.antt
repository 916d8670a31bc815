-- What is left as it was in a list.
use Rattle.std.specs.Prelude.{◌≡◌, List, ℕ, ◌<◌, ◌≤◌, length}
use Rattle.definitions.specs.Lists.{nth}

-- Outside the cells from low to below high nothing changed.
pub record KeptOutside (low high : ℕ) (d e : List ℕ) : Type 0 where
  pub size : length e ≡ length d
  pub before : (i : ℕ) → i < low → nth e i ≡ nth d i
  pub behind : (i : ℕ) → high ≤ i → nth e i ≡ nth d i
