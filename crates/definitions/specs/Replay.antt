-- "The replay": what each replica does under a stop list, and the R and L lines.
use Rattle.std.specs.Prelude.{ℕ, min, List, [], ◌∷◌, ◌++◌, map}
use Rattle.definitions.specs.Lists.{bytes, below, keep}
use Rattle.definitions.specs.Limits.{Limits}
use Rattle.definitions.specs.Text.{decimal, line_text}
use Rattle.definitions.specs.Job.{Job}
use Rattle.definitions.specs.Plan.{Line}
use Rattle.definitions.specs.Stops.{Stop}
use Rattle.definitions.specs.Times.{Time, tick, never, same, least, Outcome, of_task, times, walk, placements, makespan}

-- "In a doubled plan copies run in written order": the outcome of each replica under the stops. "A copy that cannot finish bars
-- every later copy on its box": its box is never ready again. The plan's ticks are not used.
unfoldable pub replay : Job → List Stop → List Line → List Outcome
replay j stops ns = walk j least stops [] (placements j ns)

-- "The first finish" of task t.
unfoldable pub first_finish : ℕ → List Outcome → Time
first_finish t ds = least (times (of_task t ds))

-- The lowest of some boxes.
unfoldable pub lowest : List ℕ → ℕ
lowest [] = 0
lowest (p ∷ []) = p
lowest (p ∷ q ∷ ps) = min p (lowest (q ∷ ps))

-- The box of the first finish x, "ties: lowest box".
unfoldable pub first_processor : ℕ → Time → List Outcome → ℕ
first_processor t x ds = lowest (map (λ d. d.processor) (keep (λ d. same d.time x) (of_task t ds)))

-- "The largest first finish of the exit tasks"; never, if one has none.
unfoldable pub replay_makespan : Job → List Outcome → Time
replay_makespan j ds = makespan j least ds

module _ (l : Limits) where
  -- `R,task,box,tick` or `R,task,-,-`
  abbrev pub result_line : ℕ → Time → ℕ → List ℕ
  result_line t (tick x) p = line_text l (bytes "R,") (t ∷ p ∷ x ∷ [])
  result_line t never p = bytes "R," ++ decimal l t ++ bytes ",-,-\n"

  -- "For each task, in task order".
  unfoldable pub result_lines : List ℕ → List Outcome → List ℕ
  result_lines [] ds = []
  result_lines (t ∷ ts) ds = result_line t (first_finish t ds) (first_processor t (first_finish t ds) ds) ++ result_lines ts ds

  -- `L,tick` or `L,-`
  abbrev pub end_line : Time → List ℕ
  end_line (tick x) = line_text l (bytes "L,") (x ∷ [])
  end_line never = bytes "L,-\n"

  -- "Answer": the R lines, then the L line.
  unfoldable pub replay_text : Job → List Outcome → List ℕ
  replay_text j ds = result_lines (below j.tasks) ds ++ end_line (replay_makespan j ds)
