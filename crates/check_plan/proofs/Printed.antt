-- What the check program prints: `OK`, or a line of at most two numbers.
use Rattle.lists.proofs.Prelude.{◌≡◌, List, [], ◌∷◌, ℕ, ◌≤◌, arith, length, document01, Verdict, Says}
use Rattle.definitions.specs.Tools.{check_printed}
use Rattle.lists.specs.Over.{over}
use Rattle.text.specs.Meaning.{written}
use Rattle.console.proofs.Shown.{refusal_most, written_front}
use Rattle.io.specs.Counts.{IsPrefixLen}

printed_most : (ns : List ℕ) → length ns ≤ 2 → length (check_printed document01 ns) ≤ 24
printed_most [] h = omega arith
printed_most (n ∷ ns) h = omega (arith, refusal_most (n ∷ ns))

-- The verdict v says these numbers, and what is printed for them was written into the output d.
pub shown : (v : Verdict) (ns d e : List ℕ) (n : ℕ) → Says v ns → length ns ≤ 2 → length d ≡ 24 → n ≡ length (check_printed document01 ns)
    → e ≡ written d 0 (check_printed document01 ns)
    → ((ms : List ℕ) × Says v ms × (n ≡ length (check_printed document01 ms)) × (e ≡ over d 0 (check_printed document01 ms))) × IsPrefixLen n e
shown v ns d e n s k r l f =
    let (a, b, c) = written_front d e (check_printed document01 ns) n (omega (arith, printed_most ns k)) l f in
    ((ns, s, a, b), c)
