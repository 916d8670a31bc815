-- Times in cells of 64 bits.
use Rattle.std.specs.Prelude.{◌≡◌, ℕ, ◌≤◌, ◌⊎◌, ◌==◌, if◌then◌else◌}
use Rattle.definitions.specs.Times.{Time, tick, never}

-- Never in a cell: the greatest number.
abbrev pub never_cell : ℕ
never_cell = 18_446_744_073_709_551_615

-- The time that a cell holds.
abbrev pub time_in : ℕ → Time
time_in x = if x == never_cell then never else tick x

-- A cell holds never, or a tick that does not pass b.
abbrev pub Small : ℕ → ℕ → Type 0
Small b x = (x ≡ never_cell) ⊎ (x ≤ b)
