-- A refusal that is handed on, as by `?`.
use Rattle.std.specs.Prelude.{Result as Answer, IsErrAnd}
use Rattle.text.proofs.Refusals.{handed}
use Rattle.lists.proofs.Prelude.{◌≡◌, refl, Verdict}
use Rattle.definitions.specs.Tools.{rejected}
use Rattle.text.specs.Numbers.{number_of}
use Rattle.text.specs.declared.refusal.Refusal.{Refusal}
pub use Rattle.jobs.proofs.AnswerLaws.{answered_err}
use Rattle.rounds.specs.Verdicts.{Judged}
use Rattle.rounds.specs.declared.Fault.{Fault}
use Rattle.rounds.specs.declared.Fault.TheVariants.{Refused}

pub judged_err : (v : Verdict) (e : Refusal) (r : Answer (Unit {0}) Fault) → IsErrAnd r (λ y. y ≡ Refused e) → v ≡ rejected (number_of e) → Judged v r
judged_err v e r h f = rw (handed r (Refused e) h, f) refl
