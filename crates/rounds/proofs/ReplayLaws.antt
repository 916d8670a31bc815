-- The replay's answer: it does not depend on the order of the outcomes, and what the memory gives is what the texts say.
use Rattle.std.specs.Prelude.{Result as Answer, Ok, Err}
use Rattle.lists.proofs.Prelude.{◌≡◌, refl, ap, ap₂, ⊎_elim, List, [], ◌∷◌, ◌++◌, map, reverse, Bool, ℕ, ◌≤◌, arith, le-ltb, eqb, length, nth, below, keep, In, Limits, Result, good, bad, Job, Stop, read_stops, Time, same, largest, Outcome, of_task, exits, makespan, replay, first_finish, first_processor, replay_makespan, result_lines, end_line, replay_text, fitting}
use Rattle.definitions.proofs.Lists.{map_same, in_map, map_in, in_keep, keep_in, in_reverse, reverse_left}
use Rattle.text.specs.Numbers.{number_of}
use Rattle.text.specs.declared.refusal.Refusal.{Refusal}
use Rattle.heads.specs.Layout.{lanes_most}
use Rattle.jobs.specs.Answers.{Answered}
use Rattle.jobs.specs.Held.{job_in, JobHeld, LinksHeld}
use Rattle.plans.specs.Lines.{LinesHeld}
use Rattle.stops.specs.Loading.{stops_from, StopsLoaded}
use Rattle.plans.specs.Loading.{plan_in, PlanHeld}
use Rattle.rounds.specs.Tools.{replay_of}
use Rattle.rounds.specs.Replaying.{StopsIn, outcomes_in, RisingIn, RoundRun}
use Rattle.jobs.proofs.Held.{processors_in, sizes, job_kept, links_kept}
use Rattle.rounds.proofs.FirstLaws.{least_same, lowest_same}

-- The order of outcomes -------------------------------------------------------------------------------------------------

-- Two lists have the same members.
pub record Alike {A : Type 0} (xs ys : List A) : Type 0 where
  pub there : (x : A) → In x xs → In x ys
  pub back : (x : A) → In x ys → In x xs

pub alike_reverse : {A : Type 0} (xs : List A) → Alike (reverse xs) xs
alike_reverse xs = record { there = λ x i. ⊎_elim (λ k. k) absurd (in_reverse x xs [] i); back = λ x i. reverse_left x xs [] i }

alike_keep : {A : Type 0} {xs ys : List A} → Alike xs ys → (f : A → Bool) → Alike (keep f xs) (keep f ys)
alike_keep {A} {xs} {ys} a f =
    record {
      there = λ x i. let (k, e) = in_keep f x xs i in keep_in f x ys (a.there x k) e;
      back = λ x i. let (k, e) = in_keep f x ys i in keep_in f x xs (a.back x k) e;
    }

pub alike_map : {A B : Type 0} {xs ys : List A} → Alike xs ys → (f : A → B) → Alike (map f xs) (map f ys)
alike_map {A} {B} {xs} {ys} a f =
    record {
      there = λ y i. let (x, k, e) = in_map f y xs i in rw e at (map_in f x ys (a.there x k));
      back = λ y i. let (x, k, e) = in_map f y ys i in rw e at (map_in f x xs (a.back x k));
    }

module _ {ds es : List Outcome} (a : Alike ds es) where
  task_alike : (t : ℕ) → Alike (of_task t ds) (of_task t es)
  unfolding of_task
  task_alike t = alike_keep a (λ d. eqb d.task t)

  finish_alike : (t : ℕ) → first_finish t ds ≡ first_finish t es
  unfolding first_finish
  finish_alike t = let b = alike_map (task_alike t) (λ d. d.time) in least_same _ _ b.there b.back

  processor_alike : (t : ℕ) (x : Time) → first_processor t x ds ≡ first_processor t x es
  unfolding first_processor
  processor_alike t x = let b = alike_map (alike_keep (task_alike t) (λ d. same d.time x)) (λ d. d.processor) in lowest_same _ _ b.there b.back

  makespan_alike : (j : Job) → replay_makespan j ds ≡ replay_makespan j es
  unfolding replay_makespan makespan first_finish
  makespan_alike j = ap largest (map_same (λ t. first_finish t ds) (λ t. first_finish t es) (exits j) (λ t i. finish_alike t))

  lines_alike : (l : Limits) (ts : List ℕ) → result_lines l ts ds ≡ result_lines l ts es
  unfolding result_lines
  lines_alike l [] = refl
  lines_alike l (t ∷ ts) = rw (finish_alike t, processor_alike t (first_finish t es), lines_alike l ts)

  text_alike : (l : Limits) (j : Job) → replay_text l j ds ≡ replay_text l j es
  unfolding replay_text
  text_alike l j = ap₂ ◌++◌ (lines_alike l (below j.tasks)) (ap (end_line l) (makespan_alike j))

-- A round that has run ----------------------------------------------------------------------------------------------------

-- There is a cell for every processor.
stops_all : (lim : Limits) (size : ℕ) (j : Job) (s : List ℕ) → j.processors ≤ size → stops_from lim size j s ≡ read_stops lim j s
unfolding stops_from
stops_all lim size j s h = rw (le-ltb size j.processors h)

few_processors : {lim : Limits} {capacity : ℕ} {mem : List ℕ} → JobHeld lim capacity mem → (job_in mem).processors ≤ lanes_most
few_processors {mem = mem} h = rw (processors_in mem) (sizes h).lanes_fit

-- The stops' text was refused, or gave stops.
stops_refused : (lim : Limits) (x : Result (List Stop)) (cells : List ℕ) (e : Refusal) → StopsLoaded lim x cells (Err e) → x ≡ bad (number_of e)
stops_refused lim (good ss) cells e (f, _) = absurd (let z : ◌≡◌ {A = ℕ} 0 1 = cc in omega arith)
stops_refused lim (bad k) cells e f = cc

stops_read : (lim : Limits) (x : Result (List Stop)) (cells : List ℕ) (u : Unit {0}) → length cells ≡ lanes_most → StopsLoaded lim x cells (Ok u) → (ss : List Stop) × (x ≡ good ss) × StopsIn ss cells
stops_read lim (good ss) cells u z (_, f) = (ss, refl, λ p h. (f p (omega (arith, h, z))).0)
stops_read lim (bad k) cells u z e = absurd (let z : ◌≡◌ {A = ℕ} 0 1 = cc in omega arith)

-- The plan in d has run under the stops in the cells, and e is the memory after it.
module _ {lim : Limits} {capacity : ℕ} {d e cells : List ℕ} (h : PlanHeld lim capacity d) (r : RoundRun lim capacity cells d e) where
  pub run_asked : {links : List ℕ} → LinksHeld d links → LinesHeld lim capacity (nth e 0) e × RisingIn capacity e × LinksHeld e links
  run_asked l = (r.standing, r.rising, links_kept h.standing.job r.outside (omega arith) l)

  run_text : (ss : List Stop) → StopsIn ss cells
      → replay_text lim (job_in e) (outcomes_in capacity e) ≡ replay_text lim (job_in d) (replay (job_in d) ss (plan_in capacity d).lines)
  run_text ss i =
      rw (r.outcomes ss i, job_kept h.standing.job r.outside (omega arith))
      (text_alike (alike_reverse (replay (job_in d) ss (plan_in capacity d).lines)) lim (job_in d))

  -- What is answered by the round's lines is the answer to the stops' text.
  pub run_answer : (stops out z : List ℕ) (u : Unit {0}) (a : Answer ℕ Refusal) → length cells ≡ lanes_most → StopsLoaded lim (stops_from lim lanes_most (job_in d) stops) cells (Ok u)
      → Answered (fitting (length out) (replay_text lim (job_in e) (outcomes_in capacity e))) out z a → Answered (replay_of lim stops (length out) (job_in d, plan_in capacity d)) out z a
  run_answer stops out z u a l g f =
      let (ss, q, i) = stops_read lim (read_stops lim (job_in d) stops) cells u l (rw (stops_all lim lanes_most (job_in d) stops (few_processors h.standing.job)) at g) in
      rw (q, ← run_text ss i) f

pub run_refused : {lim : Limits} (capacity : ℕ) (d cells stops : List ℕ) (room : ℕ) (e : Refusal) → JobHeld lim capacity d → StopsLoaded lim (stops_from lim lanes_most (job_in d) stops) cells (Err e)
    → replay_of lim stops room (job_in d, plan_in capacity d) ≡ bad (number_of e)
run_refused {lim} capacity d cells stops room e j h =
    rw (stops_refused lim (read_stops lim (job_in d) stops) cells e (rw (stops_all lim lanes_most (job_in d) stops (few_processors j)) at h)) refl
