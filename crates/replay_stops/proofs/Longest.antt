-- The program's output holds the longest answer of the replay.
use Rattle.lists.proofs.Prelude.{◌≡◌, refl, ap, inl, inr, ⊎_elim, List, [], ◌∷◌, ℕ, ◌<◌, ◌≤◌, arith, le-ltb, length, In, document01, Result, good, bad, and_then}
use Rattle.lists.proofs.Prelude.{Job, read_job, Line, processors_of, read_plan, Stop, read_stops, least, Placement, Outcome}
use Rattle.lists.proofs.Prelude.{outcome, finish, walk, placements_of, placements, replay, replay_text, fitting, replayed, replay_answer, printed, replay_printed, Ordered}
use Rattle.definitions.proofs.Lists.{in_append, in_map}
use Rattle.definitions.proofs.Reading.{and_then_good, job_facts, plan_facts}
use Rattle.console.proofs.Shown.{refusal_most}
use Rattle.rounds.proofs.Longest.{text_most, longest}

-- Processors ---------------------------------------------------------------------------------------------------------------

-- An outcome is on the processor of its replica, and a replica is on a processor of its line.
walk_on : (j : Job) (ss : List Stop) (placed : List Outcome) (cs : List Placement) (d : Outcome) → In d (walk j least ss placed cs)
    → (c : Placement) × In c cs × (c.processor ≡ d.processor)
unfolding walk
walk_on j ss placed [] d x' = elim x' [ ]
walk_on j ss placed (c ∷ cs) d (inl e) = (c, inl refl, ap (λ (d : Outcome). d.processor) e)
walk_on j ss placed (c ∷ cs) d (inr i) = let (a, k, e) = walk_on j ss (outcome c (finish j least ss placed c) ∷ placed) cs d i in (a, inr k, e)

placements_on : (j : Job) (seen : List ℕ) (ns : List Line) → Ordered j seen ns → (c : Placement) → In c (placements j ns) → c.processor < j.processors
unfolding placements
placements_on j seen [] _ c i = elim i [ ]
placements_on j seen (n ∷ ns) (o, os) c i =
    ⊎_elim
    (λ k. let (p, m, e) = in_map _ c (processors_of n) k in rw (← e) (o.processors_below p m))
    (placements_on j (n.task ∷ seen) ns os c)
    (in_append c (placements_of j n.task (processors_of n)) (placements j ns) i)

-- Answers -------------------------------------------------------------------------------------------------------------

module _ (job plan stops : List ℕ) where
  pub replay_most : (t : List ℕ) → replayed document01 job plan stops ≡ good t → length t ≤ 5113
  unfolding replayed replay
  replay_most t h =
      let (j, a, f) = and_then_good (read_job document01 job) _ t h in
      let (p, b, g) = and_then_good (read_plan document01 j plan) _ t f in
      let (ss, _, e) = and_then_good (read_stops document01 j stops) _ t g in
      let jf = job_facts document01 job j a in
      let pf = plan_facts document01 j plan p b in
      let on : (d : Outcome) → In d (replay j ss p.lines) → d.processor ≤ 16 =
      λ d i.
      let (c, k, q) = walk_on j ss [] (placements j p.lines) d i in
      omega (arith, placements_on j [] p.lines pf.ordered c k, jf.processors_most) in
      let s : replay_text document01 j (replay j ss p.lines) ≡ t = cc in
      omega (arith, text_most document01 (omega arith) (replay j ss p.lines) on j jf.tasks_most, longest, ap length s)

  -- An output of that length is never too short.
  pub all_fits : (room : ℕ) → room ≡ 5113 → replay_answer document01 job plan stops room ≡ replayed document01 job plan stops
  unfolding replay_answer
  all_fits room r = by (replayed document01 job plan stops) refl
    where
      by : (x : Result (List ℕ)) → replayed document01 job plan stops ≡ x → and_then x (fitting room) ≡ x
      by (good t) e = rw (le-ltb room (length t) (omega (arith, replay_most t e)))
      by (bad n) e = refl

  pub replay_printed_lem : replay_printed job plan stops ≡ printed document01 (replayed document01 job plan stops)
  unfolding replay_printed
  replay_printed_lem = refl

  pub printed_most : length (replay_printed job plan stops) ≤ 5113
  printed_most = rw replay_printed_lem (by (replayed document01 job plan stops) refl)
    where
      by : (x : Result (List ℕ)) → replayed document01 job plan stops ≡ x → length (printed document01 x) ≤ 5113
      by (good t) e = replay_most t e
      by (bad n) e = omega (arith, refusal_most (n ∷ []))
