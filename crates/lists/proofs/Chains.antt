-- What the library says of a list's members, as document 01 says it.
use Rattle.lists.proofs.Prelude.{◌≡◌, refl, List, [], ◌∷◌, Bool, any}
use Rattle.std.specs.List.{list_any}

-- Of some member, by tests that agree.
pub any_listed : {A : Type 0} (f g : A → Bool) → ((x : A) → f x ≡ g x) → (xs : List A) → list_any f xs ≡ any g xs
unfolding any
any_listed f g same [] = refl
any_listed f g same (x ∷ xs) = rw (same x, any_listed f g same xs)
