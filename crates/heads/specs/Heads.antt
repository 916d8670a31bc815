-- A job's head that was read, and the memory that the job needs.
use Rattle.std.specs.Prelude.{ℕ, ◌≡◌, List, Bool, ◌&&◌, eqb, leb, drop, Result, Ok, Err}
use Rattle.definitions.specs.Limits.{Limits}
use Rattle.definitions.specs.Text.{bad}
use Rattle.definitions.specs.Job.{JobHead, job_head_rule, read_job}
use Rattle.heads.specs.Layout.{memory_size, links_room, has_room}
use Rattle.heads.specs.Reading.{from_runs, closed}
use Rattle.heads.specs.declared.Head.{Head}
use Rattle.heads.specs.declared.Opened.{Opened}
use Rattle.text.specs.declared.refusal.Refusal.{Refusal}
use Rattle.text.specs.Numbers.{number_of}

-- The numbers of a head.
abbrev pub head_of : Head → JobHead
head_of h = record { tasks = h.tasks; processors = h.processors; edges = h.edges; losses = h.losses }

-- A job's head was read, and what is left of the text, a part at its end, gives the rest of the job; or the refusal.
abbrev pub HeadRead : Limits → List ℕ → Result Opened Refusal → Type 0
HeadRead l s (Ok o) =
    (job_head_rule l (head_of o.head) ≡ 0) × (read_job l s ≡ closed (from_runs l (head_of o.head) o.rest.now)) × ((n : ℕ) × (o.rest.now ≡ drop n s))
HeadRead l s (Err e) = read_job l s ≡ bad (number_of e)

-- A memory of so many cells has this capacity, 32 at most, the memory for the links has as many cells as it asks for, and a job with
-- this head fits.
unfoldable pub roomy : ℕ → ℕ → ℕ → JobHead → Bool
roomy capacity size links h = leb capacity 32 && eqb size (memory_size capacity) && leb (links_room capacity) links && has_room capacity h
