-- A float that is not never is that of a tick, which a signed cell holds.
use Rattle.lists.proofs.Prelude.{refl, sym, arith, inl, inr}
use Rattle.ticks.proofs.HeldLaws.{never_yes}
use Rattle.rounds.proofs.TimeLaws.{time_tick}
use Rattle.rounds.proofs.CastLaws.{signed_cast}
use Rattle.rounds.proofs.times.cell_of.Goals as goal

pub returns-then-x-no_time : goal.returns-then-x-no_time
returns-then-x-no_time c = (sym (never_yes (omega arith) c.requires (rw c.no_time.ensures at c.if-x-no_time.true)), inl refl)

pub float_to_int-result : goal.float_to_int-result
float_to_int-result c = (signed_cast c.requires (rw c.no_time.ensures at c.if-x-no_time.false)).2

pub overflow_cast-result : goal.overflow_cast-result
overflow_cast-result c =
    let (n, _, _, s, l) = signed_cast c.requires (rw c.no_time.ensures at c.if-x-no_time.false) in rw s (tt, omega arith)

pub returns : goal.returns
returns c =
    let (n, t, _, s, l) = signed_cast c.requires (rw c.no_time.ensures at c.if-x-no_time.false) in
    rw (s, t) (time_tick n (λ e. omega arith), inr l)
