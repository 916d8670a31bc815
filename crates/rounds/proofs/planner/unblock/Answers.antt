-- What blocks u is counted down; if nothing does it gets its priority and its place in the list.
use Rattle.lists.proofs.Prelude.{arith}
use Rattle.jobs.proofs.Held.{sizes}
use Rattle.rounds.proofs.LevelLaws.{level_most_lem}
use Rattle.rounds.proofs.Outcomes.{short_most}
use Rattle.rounds.proofs.FreeLaws.{free_same, free_in_lem, list_takes}
use Rattle.rounds.proofs.ReleaseLaws.{still_blocked, now_free}
use Rattle.rounds.proofs.planner.unblock.Goals as goal

pub returns-then-b-gt1 : goal.returns-then-b-gt1
returns-then-b-gt1 c =
    let (s, v, l, _) = c.requires in
    let w = sizes s.1.standing.job in
    let x = still_blocked w v c.if-b-gt1.true in
    (x, free_same w v.task x l (omega (arith, x.count, c.if-b-gt1.true)))

pub top_level-x-requires : goal.top_level-x-requires
top_level-x-requires c =
    let ((k, s), v, _, links) = c.requires in (
      (k, s.standing, λ j c l m. omega (arith, (s.ticks j c l m).0, short_most s.standing (omega arith) s.ticks)),
      links,
      v.task,
      v.last (omega (arith, v.some, c.if-b-gt1.false)),
      s.far,
    )

pub overflow_add-mem-3 : goal.overflow_add-mem-3
overflow_add-mem-3 c =
    let s = c.requires.0.1 in
    omega (arith, s.levels c.args.u c.requires.1.task, level_most_lem s.standing.job c.args.u, c.top_level-x.ensures.1)

pub overflow_cast-u : goal.overflow_cast-u
overflow_cast-u c = omega (arith, sizes c.requires.0.1.standing.job, c.requires.1.task)

pub put_in-requires : goal.put_in-requires
put_in-requires c =
    let (s, v, l, _) = c.requires in
    let w = sizes s.1.standing.job in
    let x = now_free w v (omega (arith, c.if-b-gt1.false)) _ c.top_level-x.ensures.0 in
    list_takes w v.task x l s.1.standing.job

pub returns : goal.returns
returns c =
    let (s, v, l, _) = c.requires in
    let left = c.if-b-gt1.false in
    let put = c.put_in.ensures in
    let w = sizes s.1.standing.job in
    let x = now_free w v (omega (arith, left)) _ c.top_level-x.ensures.0 in
    (x, free_in_lem w v.task x l (omega (arith, x.count, left, v.some)) put.0 put.1.1)
