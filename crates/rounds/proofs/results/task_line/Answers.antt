use Rattle.lists.proofs.Prelude.{ap, arith, length, document01}
use Rattle.printing.proofs.Rendering.{lent_written}
use Rattle.rounds.specs.Texts.{task_line}
use Rattle.rounds.proofs.ResultLaws.{task_line_lem}
use Rattle.rounds.proofs.results.task_line.Goals as goal

pub returns : goal.returns
returns c = let args = c.args in
    let q = task_line_lem document01 c.first_finish-first.ensures in
    let (e, m) = c.result_line.ensures.value in record {
      value = (omega (arith, e, ap length q), omega (arith, m));
      holds = lent_written args.out.now args.at c.place_in-p.result (task_line document01 args.house.capacity args.t args.house.mem.now)
          c.result_line.new.out c.place_in-p.ensures
          (rw q c.result_line.ensures.holds);
    }
