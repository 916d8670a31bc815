-- The head and the rows passed were rendered.
use Rattle.lists.proofs.Prelude.{List, ℕ, ◌≤◌, ◌+◌, ◌*◌, document01}
use Rattle.printing.specs.Rendered.{Rendered}
use Rattle.rounds.specs.Texts.{head_bytes, row_bytes}
use Rattle.rounds.proofs.PlanTextLaws.{rows_after_head}
use Rattle.rounds.proofs.plan_text.render.Given as goal

abbrev pub invariant-loop-k : goal.invariant-loop-k
invariant-loop-k l =
    (l.at ≤ head_bytes document01 + row_bytes document01 * l.k)
    × ((d : List ℕ) → Rendered (rows_after_head document01 l.capacity 0 l.mem) d l.initial.out l.initial.at → Rendered (rows_after_head document01 l.capacity l.k l.mem) d l.out l.at)
