-- "What is refused", after a plan's last line: 12 over all lines, then 13, then 14.
use Rattle.std.specs.Prelude.{ℕ, List, [], ◌∷◌, ◌++◌, map, Bool, true, false, not, ◌&&◌}
use Rattle.definitions.specs.Lists.{keep, distinct, empty}
use Rattle.definitions.specs.Text.{first_of}
use Rattle.definitions.specs.Job.{Job}
use Rattle.definitions.specs.Plan.{Replica, Line, Plan, processors_of, line_tasks}
use Rattle.definitions.specs.Times.{Time, tick, same, times, earlies, lates, lower_bound, upper_bound}

-- "Some task has two copies on one box" (12): the tasks of which this is true, in plan order.
unfoldable pub doubled_tasks : List Line → List ℕ
doubled_tasks ns = line_tasks (keep (λ n. not (distinct (processors_of n))) ns)

-- All replicas in written order.
unfoldable pub replicas_of : List Line → List Replica
replicas_of [] = []
replicas_of (n ∷ ns) = n.replicas ++ replicas_of ns

-- The same times in the same order.
unfoldable pub same_times : List Time → List Time → Bool
same_times [] [] = true
same_times [] (y ∷ ys) = false
same_times (x ∷ xs) [] = false
same_times (x ∷ xs) (y ∷ ys) = same x y && same_times xs ys

-- "An early or late tick differs from the equations'" (13), if this is false.
unfoldable pub ticks_agree : Job → List Line → Bool
ticks_agree j ns =
    same_times (times (earlies j ns)) (map (λ r. tick r.early) (replicas_of ns))
    && same_times (times (lates j ns)) (map (λ r. tick r.late) (replicas_of ns))

-- "M* or M differs" (14), if this is false.
unfoldable pub bounds_agree : Job → Plan → Bool
bounds_agree j p = same (lower_bound j p.lines) (tick p.lower) && same (upper_bound j p.lines) (tick p.upper)

-- "After the plan's last line the checker tries 12 over all lines, then 13, then 14"; 0 if none is due.
unfoldable pub plan_refusal : Job → Plan → ℕ
plan_refusal j p =
    first_of
    (
    (not (empty (doubled_tasks p.lines)), 12)
    ∷ (not (ticks_agree j p.lines), 13)
    ∷ (not (bounds_agree j p), 14)
    ∷ []
    )
