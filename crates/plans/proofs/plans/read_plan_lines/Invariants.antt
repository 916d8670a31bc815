-- The lines from line k on, after the lines before it, are all the lines.
use Rattle.lists.proofs.Prelude.{document01}
use Rattle.plans.proofs.PlanReading.{PlanUpTo}
use Rattle.plans.proofs.plans.read_plan_lines.Given as goal

abbrev pub invariant-loop-k : goal.invariant-loop-k
invariant-loop-k l = PlanUpTo document01 l.capacity l.initial.reader l.initial.mem l.k l.reader l.mem
