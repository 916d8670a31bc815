use Rattle.std.proofs.Common.{length, ◌-◌}
use Rattle.io.specs.Counts.{IsPrefixLen}
use Rattle.console.proofs.load.Given as goal

abbrev pub invariant-loop-done : goal.invariant-loop-done
invariant-loop-done g l = IsPrefixLen l.done l.buf

abbrev pub decreases-loop-done : goal.decreases-loop-done
decreases-loop-done g l = length l.initial.buf - l.done
