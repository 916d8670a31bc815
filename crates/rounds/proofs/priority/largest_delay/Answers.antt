use Rattle.lists.proofs.Prelude.{◌≡◌, refl, ap, ◌∙◌, ℕ, arith, map, count_from, below, greatest, delay, largest_delay}
use Rattle.jobs.specs.Held.{job_in}
use Rattle.jobs.proofs.Held.{processors_in}
use Rattle.lists.proofs.Upward.{greatest_more}
use Rattle.rounds.proofs.priority.largest_delay.Goals as goal

pub loop-q-init : goal.loop-q-init
unfolding greatest count_from
loop-q-init c = refl

pub loop-q-preserved : goal.loop-q-preserved
loop-q-preserved c =
    let args = c.args in
    let loop = c.loop-q in
    omega (arith, c.max-x.ensures, c.delay.ensures.0, greatest_more (delay (job_in args.mem.now) args.p) loop.q)

pub returns : goal.returns
unfolding largest_delay
returns c =
    let j = job_in c.args.mem.now in
    let e : c.loop-q.q ≡ j.processors = omega (arith, processors_in c.args.mem.now) in
    c.loop-q.invariant ∙ ap (λ (k : ℕ). greatest (map (delay j c.args.p) (below k))) e
