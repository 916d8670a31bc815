-- Cells that are the same in two memories, and what is kept outside some cells.
use Rattle.lists.proofs.Prelude.{◌≡◌, refl, ◌∙◌, List, ℕ, ◌<◌, ◌≤◌, arith, set, length-set, get_or-set_other, nth}
use Rattle.lists.specs.Kept.{KeptOutside}

-- The cells from low to below high are the same in both.
pub record Same (low high : ℕ) (d e : List ℕ) : Type 0 where
  pub cell : (i : ℕ) → low ≤ i → i < high → nth e i ≡ nth d i

pub same_part : {low high : ℕ} {d e : List ℕ} (a b : ℕ) → Same low high d e → low ≤ a → b ≤ high → Same a b d e
same_part a b k h g = record { cell = λ i p q. k.cell i (omega arith) (omega arith) }

pub same_before : {low high : ℕ} {d e : List ℕ} (a b : ℕ) → KeptOutside low high d e → b ≤ low → Same a b d e
same_before a b k h = record { cell = λ i p q. k.before i (omega arith) }

pub same_behind : {low high : ℕ} {d e : List ℕ} (a b : ℕ) → KeptOutside low high d e → high ≤ a → Same a b d e
same_behind a b k h = record { cell = λ i p q. k.behind i (omega arith) }

module _ {low high : ℕ} where
  pub kept_all : {d : List ℕ} → KeptOutside low high d d
  kept_all = record { size = refl; before = λ i h. refl; behind = λ i h. refl }

  pub kept_then : {d e f : List ℕ} → KeptOutside low high d e → KeptOutside low high e f → KeptOutside low high d f
  kept_then p q =
      record {
        size = q.size ∙ p.size;
        before = λ i h. q.before i h ∙ p.before i h;
        behind = λ i h. q.behind i h ∙ p.behind i h;
      }

  pub kept_wider : (low' high' : ℕ) {d e : List ℕ} → KeptOutside low high d e → low' ≤ low → high ≤ high' → KeptOutside low' high' d e
  kept_wider low' high' p a b =
      record { size = p.size; before = λ i h. p.before i (omega arith); behind = λ i h. p.behind i (omega arith) }

  -- one store more
  pub kept_set : {d e : List ℕ} (i x : ℕ) → KeptOutside low high d e → low ≤ i → i < high → KeptOutside low high d (set e i x)
  kept_set {d} {e} i x p a b =
      record {
        size = length-set e i x ∙ p.size;
        before = λ j h. get_or-set_other e i j x 0 (λ q. omega arith) ∙ p.before j h;
        behind = λ j h. get_or-set_other e i j x 0 (λ q. omega arith) ∙ p.behind j h;
      }
