-- "The small house": cases (a) to (j), one table, and one fact over it.
use Rattle.std.specs.Prelude.{ℕ, ◌≡◌, refl, List, [], ◌∷◌, Bool, true, ◌&&◌}
use Prim.Native.String.{String}
use Rattle.definitions.specs.Lists.{bytes, same_numbers}
use Rattle.definitions.specs.Limits.{document01}
use Rattle.definitions.specs.Text.{Result, good, bad}
use Rattle.definitions.specs.Job.{Job, read_job}
use Rattle.definitions.specs.Planner.{bottom_levels}
use Rattle.definitions.specs.Tools.{plan_printed, replay_printed, check_number}

-- The house's job, its plan, and the plan with a replica of task 0 twice on box 0, and with M given as 12.
abbrev pub house : String
house = "JOB,2,3,1,1\nC,0,4,6,9\nC,1,5,5,3\nD,0,0,1,2\nD,1,1,0,1\nD,2,2,1,0\nE,0,1,2\n"

abbrev pub house_plan : String
house_plan = "PLAN,2,3,1,9,11\nT,0,0,4,4,1,6,6\nT,1,0,9,9,1,11,11\n"

abbrev pub doubled_plan : String
doubled_plan = "PLAN,2,3,1,9,11\nT,0,0,4,4,0,8,8\nT,1,0,9,9,1,11,11\n"

abbrev pub wrong_upper_plan : String
wrong_upper_plan = "PLAN,2,3,1,9,12\nT,0,0,4,4,1,6,6\nT,1,0,9,9,1,11,11\n"

-- What is asked of the definitions.
pub data Given : Type 0 where
  planned : (job : String) → Given
  levelled : (job : String) → Given
  replayed : (job plan stops : String) → Given
  checked : (job plan : String) → Given

-- A row: what is asked, and the bytes or numbers that are expected.
pub record Row : Type 0 where
  pub given : Given
  pub expected : List ℕ

abbrev pub levels_of : Result Job → List ℕ
levels_of (good j) = bottom_levels j
levels_of (bad n) = n ∷ []

abbrev pub answer : Given → List ℕ
answer (planned job) = plan_printed (bytes job)
answer (levelled job) = levels_of (read_job document01 (bytes job))
answer (replayed job plan stops) = replay_printed (bytes job) (bytes plan) (bytes stops)
answer (checked job plan) = let r = check_number (bytes job) (bytes plan) in r.0 ∷ r.1

abbrev pub row : Given → List ℕ → Row
row g e = record { given = g; expected = e }

-- Each row is marked with its case in the list "To be proved".
abbrev pub table : List Row
table =
    -- (a) this plan
    row (planned house) (bytes house_plan)
    -- (b) scaled bottom levels 80 and 26
    ∷ row (levelled house) (80 ∷ 26 ∷ [])
    -- (c) stop 0 at 3: ends 11
    ∷ row (replayed house house_plan "S,0,3\n") (bytes "R,0,1,6\nR,1,1,11\nL,11\n")
    -- (d) stop 0 at 8: 11
    ∷ row (replayed house house_plan "S,0,8\n") (bytes "R,0,0,4\nR,1,1,11\nL,11\n")
    -- (e) stop 0 at 9: 9, finish equal to stop
    ∷ row (replayed house house_plan "S,0,9\n") (bytes "R,0,0,4\nR,1,0,9\nL,9\n")
    -- (f) stop 1 at 5: 9
    ∷ row (replayed house house_plan "S,1,5\n") (bytes "R,0,0,4\nR,1,0,9\nL,9\n")
    -- (g) no stop: 9
    ∷ row (replayed house house_plan "") (bytes "R,0,0,4\nR,1,0,9\nL,9\n")
    -- (h) 0 and 1 at 0: both tasks undone
    ∷ row (replayed house house_plan "S,0,0\nS,1,0\n") (bytes "R,0,-,-\nR,1,-,-\nL,-\n")
    -- (i) replicas of task 0 on box 0 twice: 12
    ∷ row (checked house doubled_plan) (12 ∷ 0 ∷ [])
    -- (j) M given as 12: 14
    ∷ row (checked house wrong_upper_plan) (14 ∷ [])
    -- "the check program answers `OK`" to the plan of (a)
    ∷ row (checked house house_plan) (0 ∷ [])
    ∷ []

unfoldable pub holds : List Row → Bool
holds [] = true
holds (r ∷ rs) = same_numbers (answer r.given) r.expected && holds rs

-- The definitions give every row.
pub every_row : holds table ≡ true
unfolding holds same_numbers plan_printed bottom_levels replay_printed check_number
every_row = refl
