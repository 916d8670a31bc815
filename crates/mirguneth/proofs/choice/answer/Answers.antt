-- The job fits the memory of its capacity.
use Rattle.lists.proofs.Prelude.{◌≡◌, refl, ◌∙◌, sym, ℕ, arith, document01, JobHead, job_head_rule}
use Rattle.heads.specs.Layout.{FitsIn, capacity_for}
use Rattle.heads.proofs.Capacity.{largest_fits, fits_most, capacity_fits}
use Rattle.mirguneth.proofs.choice.answer.Goals as goal

fits : (h : JobHead) (n r : ℕ) → job_head_rule document01 h ≡ 0 → r ≡ capacity_for h → r ≡ n → FitsIn n h
fits h n r z e q = rw (sym q ∙ e) (capacity_fits document01 largest_fits h z)

pub in_frame-requires : goal.in_frame-requires
in_frame-requires g c = (c.requires, omega arith, fits _ 1 _ c.requires c.capacity_for.ensures c.in-1.is, refl, refl)

pub in_frame-requires-in-2 : goal.in_frame-requires-in-2
in_frame-requires-in-2 g c = (c.requires, omega arith, fits _ 2 _ c.requires c.capacity_for.ensures c.in-2.is, refl, refl)

pub in_frame-requires-in-8 : goal.in_frame-requires-in-8
in_frame-requires-in-8 g c = (c.requires, omega arith, fits _ 8 _ c.requires c.capacity_for.ensures c.in-8.is, refl, refl)

pub in_frame-requires-in_default : goal.in_frame-requires-in_default
in_frame-requires-in_default g c = (c.requires, omega arith, fits_most _ largest_fits _ c.requires, refl, refl)
