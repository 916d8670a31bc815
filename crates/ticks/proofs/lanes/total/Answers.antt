use Rattle.std.proofs.Common.{rules, ◌∙◌}
use Rattle.ticks.proofs.LaneLaws.{total_folded}
use Rattle.ticks.proofs.lanes.total.Goals as goal

pub returns : goal.returns
returns c = search rules ∙ total_folded c.args.cells.now
