use Rattle.lists.proofs.Prelude.{sym, ◌∙◌, document01}
use Rattle.rounds.proofs.VerdictLaws.{answer_ticks, answer_bounds, answer_accepted}
use Rattle.rounds.proofs.checker.compare.Goals as goal

pub ticks_agree-requires : goal.ticks_agree-requires
ticks_agree-requires c = (c.requires.0, c.requires.2, c.requires.1)

pub bounds_agree-requires : goal.bounds_agree-requires
bounds_agree-requires c = let p = c.requires in (p.0, p.1, p.2, sym c.ticks_agree.ensures ∙ c.if-not-ticks_agree.false)

pub returns-then-not-ticks_agree : goal.returns-then-not-ticks_agree
returns-then-not-ticks_agree c = answer_ticks document01 _ _ c.requires.2 (sym c.ticks_agree.ensures ∙ c.if-not-ticks_agree.true)

pub returns-then-not-bounds_agree : goal.returns-then-not-bounds_agree
returns-then-not-bounds_agree c =
    answer_bounds document01 _ _ c.requires.2 (sym c.ticks_agree.ensures ∙ c.if-not-ticks_agree.false)
    (sym c.bounds_agree.ensures ∙ c.if-not-bounds_agree.true)

pub returns : goal.returns
returns c =
    answer_accepted document01 _ _ c.requires.2 (sym c.ticks_agree.ensures ∙ c.if-not-ticks_agree.false)
    (sym c.bounds_agree.ensures ∙ c.if-not-bounds_agree.false) _
