-- What one that counts a text, or writes it, leaves in the output.
use Rattle.std.specs.Prelude.{◌≡◌, ℕ, ◌≤◌, List, length}
use Rattle.lists.specs.Over.{over}

-- The text s was rendered into the output d, which is e since: `at` is its length, and if it fits it stands at the front of e, whose rest
-- is untouched.
pub record Rendered (s d e : List ℕ) (at : ℕ) : Type 0 where
  pub size : at ≡ length s
  pub same : length e ≡ length d
  pub holds : length s ≤ length d → e ≡ over d 0 s
