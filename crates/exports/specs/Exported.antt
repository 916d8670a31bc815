-- What the exported functions answer: document 01's number, 0 for a good answer, and a value beside it.
use Rattle.std.specs.Prelude.{ℕ, ◌≡◌, List, length}
use Rattle.definitions.specs.Lists.{In}
use Rattle.definitions.specs.Text.{Result, good, bad}
use Rattle.definitions.specs.Tools.{Verdict, accepted, doubled, rejected}
use Rattle.lists.specs.Over.{over}

-- The answer r, the output d before and e after, the count n before and c after: on a good answer the bytes stand at the
-- front of the output, the rest of it is untouched, and c is their number; on a refusal the output and the count are untouched.
abbrev pub Exported : Result (List ℕ) → List ℕ → List ℕ → ℕ → ℕ → ℕ → Type 0
Exported (good t) d e n c r = (r ≡ 0) × (e ≡ over d 0 t) × (c ≡ length t)
Exported (bad x) d e n c r = (r ≡ x) × (e ≡ d) × (c ≡ n)

-- The checker's answer r, the task s before and t after: with 12 it is one of the tasks of which 12 is true, else untouched.
abbrev pub ExportedVerdict : Verdict → ℕ → ℕ → ℕ → Type 0
ExportedVerdict accepted s t r = (r ≡ 0) × (t ≡ s)
ExportedVerdict (doubled ts) s t r = (r ≡ 12) × In t ts
ExportedVerdict (rejected n) s t r = (r ≡ n) × (t ≡ s)
