-- What a caller learns from an answer: each case is that of the definitions, with their number and values.
use Rattle.std.specs.Prelude.{Ok, Err}
use Rattle.lists.proofs.Prelude.{◌≡◌, refl, ap, List, [], ◌∷◌, ℕ, arith, length, bytes, In, document01, Result, good, bad, line_text, Verdict, printed}
use Rattle.definitions.specs.Tools.{accepted, doubled, rejected}
use Rattle.lists.specs.Over.{over}
use Rattle.text.specs.Numbers.{number_of}
use Rattle.text.specs.declared.refusal.Refusal.{Refusal}
use Rattle.jobs.specs.Answers.{Answered}
use Rattle.rounds.specs.Verdicts.{Judged}
use Rattle.rounds.specs.declared.Fault.TheVariants.{Doubled, Refused}

pub answered_done : (x : Result (List ℕ)) (d e : List ℕ) (n : ℕ) → Answered x d e (Ok n) → (t : List ℕ) × (x ≡ good t) × (n ≡ length t) × (e ≡ over d 0 t)
answered_done (good t) d e n (r, f) = (t, refl, cc, f)
answered_done (bad k) d e n (r, _) = absurd (let z : ◌≡◌ {A = ℕ} 0 1 = cc in omega arith)

pub answered_refused : (x : Result (List ℕ)) (d e : List ℕ) (n : Refusal) → Answered x d e (Err n) → (x ≡ bad (number_of n)) × (e ≡ d)
answered_refused (good t) d e n (r, _) = absurd (let z : ◌≡◌ {A = ℕ} 0 1 = cc in omega arith)
answered_refused (bad k) d e n (r, f) = (cc, f)

pub judged_accepted : (x : Verdict) → Judged x (Ok tt) → x ≡ accepted
judged_accepted accepted r = refl
judged_accepted (doubled ts) (t, r, _) = absurd (let z : ◌≡◌ {A = ℕ} 0 1 = cc in omega arith)
judged_accepted (rejected k) r = absurd (let z : ◌≡◌ {A = ℕ} 0 1 = cc in omega arith)

pub judged_doubled : (x : Verdict) (n : ℕ) → Judged x (Err (Doubled n)) → (ts : List ℕ) × (x ≡ doubled ts) × In n ts
judged_doubled accepted n r = absurd (let z : ◌≡◌ {A = ℕ} 0 1 = cc in omega arith)
judged_doubled (doubled ts) n (t, r, i) = let l : n ≡ t = cc in (ts, refl, rw l i)
judged_doubled (rejected k) n r = absurd (let z : ◌≡◌ {A = ℕ} 0 1 = cc in omega arith)

pub judged_refused : (x : Verdict) (n : Refusal) → Judged x (Err (Refused n)) → x ≡ rejected (number_of n)
judged_refused accepted n r = absurd (let z : ◌≡◌ {A = ℕ} 0 1 = cc in omega arith)
judged_refused (doubled ts) n (t, r, _) = absurd (let z : ◌≡◌ {A = ℕ} 0 1 = cc in omega arith)
judged_refused (rejected k) n r = cc

-- What the program prints: the bytes that were written, or the line of the refusal, and then the output is as it was.
pub done_printed : (x : Result (List ℕ)) (d e : List ℕ) (n : ℕ) → Answered x d e (Ok n)
    → (n ≡ length (printed document01 x)) × (e ≡ over d 0 (printed document01 x))
done_printed x d e n h = let (t, q, l, f) = answered_done x d e n h in rw q (l, f)

pub refusal_printed : (x : Result (List ℕ)) (d e : List ℕ) (n : Refusal) → Answered x d e (Err n)
    → (printed document01 x ≡ line_text document01 (bytes "N,") (number_of n ∷ [])) × (e ≡ d)
refusal_printed x d e n h = let (q, f) = answered_refused x d e n h in (ap (printed document01) q, f)
