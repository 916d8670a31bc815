-- The head that was put to the front of the memory has passed its rule.
use Rattle.lists.proofs.Prelude.{arith, length}
use Rattle.jobs.proofs.StageLaws.{headed}
use Rattle.jobs.proofs.job.load_rest.Goals as goal

pub load_runs-requires : goal.load_runs-requires
load_runs-requires c =
    let w = c.requires in
    headed c.put_head.new.mem (length c.args.links.now) _ c.put_head.ensures w.passed (omega (arith, w.room, c.put_head.auto.mem)) w.links_room
