-- What a memory holds after the rest of a job was read into it, after its head.
use Rattle.std.specs.Prelude.{ℕ, ◌≡◌, List, not, ◌&&◌, eqb, if◌then◌else◌, Result}
use Rattle.definitions.specs.Limits.{Limits}
use Rattle.definitions.specs.Text.{good, bad}
use Rattle.definitions.specs.Text as Text
use Rattle.definitions.specs.Job.{Job, JobHead, job_head_rule}
use Rattle.text.specs.declared.refusal.Refusal.{Refusal}
use Rattle.text.specs.Numbers.{result_of}
use Rattle.heads.specs.Heads.{roomy}
use Rattle.heads.specs.Reading.{from_head, closed}
use Rattle.jobs.specs.Held.{job_in, JobHeld, LinksHeld}

-- The job of a head and of the text after it, for a memory and links of so many cells: the head's rule, then 8 if there is no room, then the
-- rest of the text.
unfoldable pub job_from : Limits → ℕ → ℕ → ℕ → JobHead → List ℕ → Text.Result Job
job_from l capacity size links h s = if eqb (job_head_rule l h) 0 && not (roomy capacity size links h) then bad 8 else closed (from_head l h s)

-- The job that was read stands in the memory, and its links in theirs; or the refusal.
abbrev pub JobLoaded : Limits → ℕ → Text.Result Job → List ℕ → List ℕ → Result (Unit {0}) Refusal → Type 0
JobLoaded l capacity (good j) mem links r = (result_of r ≡ good tt) × (job_in mem ≡ j) × JobHeld l capacity mem × LinksHeld mem links
JobLoaded l capacity (bad n) mem links r = result_of r ≡ bad n
