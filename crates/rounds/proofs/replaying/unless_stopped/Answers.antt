-- Cells compare as their times do: never is the greatest.
use Rattle.lists.proofs.Prelude.{refl, arith, inl}
use Rattle.rounds.proofs.RunLaws.{stopped_late, stopped_by}
use Rattle.rounds.proofs.replaying.unless_stopped.Goals as goal

pub returns-then-x-stop : goal.returns-then-x-stop
returns-then-x-stop c = (stopped_late c.args.stop c.args.x (omega arith) c.if-x-stop.true, λ b s. inl refl)

pub returns : goal.returns
returns c = (stopped_by c.args.stop c.args.x (omega arith) c.if-x-stop.false (omega arith), λ b s. s)
