-- What a program prints stands at the front of its output, and the output's part that is printed holds it.
use Rattle.std.specs.Prelude.{Ok, Err}
use Rattle.lists.proofs.Prelude.{◌≡◌, ap, ◌∙◌, List, [], ◌∷◌, ℕ, ◌+◌, ◌*◌, ◌%◌, ◌^◌, ◌≤◌, arith, length, bytes, document01, Result, line_text, printed}
use Rattle.lists.specs.Over.{over}
use Rattle.lists.proofs.Over.{length_over}
use Rattle.text.specs.Meaning.{written}
use Rattle.text.specs.Numbers.{number_of}
use Rattle.text.specs.declared.refusal.Refusal.{Refusal}
use Rattle.text.proofs.Writing.{written_fits}
use Rattle.jobs.specs.Answers.{Answered}
use Rattle.mirguneth.proofs.Answers.{done_printed, refusal_printed}
use Rattle.printing.proofs.WriteLaws.{line_most, few_counted}
use Rattle.io.specs.Counts.{IsPrefixLen}
use Rattle.io.proofs.Counting.{prefix_len_of_le}

-- The bytes s fit the output d, and e is d with them at the front.
front : (d e s : List ℕ) (n : ℕ) → length s ≤ length d → n ≡ length s → e ≡ over d 0 s → IsPrefixLen n e
front d e s n h l f = prefix_len_of_le n e (omega (arith, ap length f, length_over d 0 s (omega arith)))

-- A writer was given the output d and the bytes s, which fit it.
pub written_front : (d e s : List ℕ) (n : ℕ) → length s ≤ length d → n ≡ length s → e ≡ written d 0 s → (n ≡ length s) × (e ≡ over d 0 s) × IsPrefixLen n e
written_front d e s n h l f = let g = f ∙ written_fits d 0 s (omega arith) in (l, g, front d e s n h l g)

-- A line of refusal has at most 11 bytes for each number, and is counted.
pub refusal_most : (ns : List ℕ) → length (line_text document01 (bytes "N,") ns) ≤ 2 + 11 * length ns
refusal_most = line_most document01 (omega arith) (bytes "N,")

pub refusal_counted : (ns : List ℕ) (r : ℕ) → length ns ≤ 2 → r ≡ length (line_text document01 (bytes "N,") ns) % 2 ^ 64
    → r ≡ length (line_text document01 (bytes "N,") ns)
refusal_counted ns r h e = (few_counted document01 (omega arith) (bytes "N,") ns 24 r (omega (arith, h)) (omega arith) e).0

-- The answer x is printed as p, which fits the output d; e is what the output holds after the answer.
module _ (x : Result (List ℕ)) (p d e : List ℕ) (q : p ≡ printed document01 x) (h : length p ≤ length d) where
  pub shown_done : (n : ℕ) → Answered x d e (Ok n) → (n ≡ length p) × (e ≡ over d 0 p) × IsPrefixLen n e
  shown_done n a =
      let (l, f) = done_printed x d e n a in
      let k : n ≡ length p = rw q l in
      let g : e ≡ over d 0 p = rw q f in
      (k, g, front d e p n h k g)

  pub shown_refusal : (n : Refusal) → Answered x d e (Err n) → (f : List ℕ) (k : ℕ) → k ≡ length (line_text document01 (bytes "N,") (number_of n ∷ []))
      → f ≡ written e 0 (line_text document01 (bytes "N,") (number_of n ∷ [])) → (k ≡ length p) × (f ≡ over d 0 p) × IsPrefixLen k f
  shown_refusal n a f k l g =
      let (r, s) = refusal_printed x d e n a in
      let t : line_text document01 (bytes "N,") (number_of n ∷ []) ≡ p = rw (q, r) in
      written_front d f p k h (rw t at l) (rw (s, t) at g)
