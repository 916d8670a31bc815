-- Refusals, and how `?` hands an error on.
use Rattle.lists.proofs.Prelude.{◌≡◌, refl, ◌<◌, rules}
use Rattle.std.specs.Prelude.{Result, Err, IsErrAnd}
use Rattle.std.proofs.lemmas.Result.{err_from_is_err_and}
use Rattle.text.specs.Numbers.{number_of}
use Rattle.text.specs.declared.refusal.Refusal.{Refusal}

-- The number of a refusal is not 0.
pub positive : (e : Refusal) → 0 < number_of e
positive e = search rules

-- An error is handed on, as by `?`.
pub handed : {A E : Type 0} (r : Result A E) (e : E) → IsErrAnd r (λ x. x ≡ e) → r ≡ Err e
handed r e h = let (x, f, g) = err_from_is_err_and r h in rw (f, g) refl
