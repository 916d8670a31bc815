-- The arrays that are cut off a list's front, as `as_chunks` gives them.
use Rattle.lists.proofs.Prelude.{◌≡◌, ap, ◌∙◌, List, [], ℕ, zero, suc, ◌+◌, ◌*◌, ◌<◌, arith, suc-mul, zero-mul, take, drop, get_or, get_or-take, get_or-drop, nth}
use native.Mathlib.Nat.{mul_comm}
use lib.Seq.{drop-drop}
use Rattle.std.specs.Simd.{first_chunks}

-- Array c of the k.
pub chunk : {A : Type 0} (n k c : ℕ) (xs : List A) → c < k → get_or (first_chunks n k xs) c [] ≡ take n (drop (c * n) xs)
chunk n zero c xs h = absurd (omega arith)
chunk n (suc k) zero xs h = rw zero-mul
chunk n (suc k) (suc c) xs h =
    let e : n + c * n ≡ suc c * n = omega (arith, suc-mul c n) in
    chunk n k c (drop n xs) (omega arith) ∙ ap (take n) (drop-drop (c * n) n xs ∙ ap (λ (i : ℕ). drop i xs) e)

-- Its cell j.
pub chunk_cell : (n k c j : ℕ) (cells : List ℕ) → c < k → j < n → nth (get_or (first_chunks n k cells) c []) j ≡ nth cells (n * c + j)
chunk_cell n k c j cells h l = rw (chunk n k c cells h, mul_comm n c) (get_or-take n (drop (c * n) cells) j 0 l ∙ get_or-drop (c * n) cells j 0)
