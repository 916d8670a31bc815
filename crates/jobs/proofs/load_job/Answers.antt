-- The head's rule, the room and the rest, as in the definition.
use Rattle.lists.proofs.Prelude.{refl, sym, ◌∙◌, arith, document01}
use Rattle.definitions.proofs.Reading.{job_head_parts}
use Rattle.text.specs.Suited.{suited}
use Rattle.heads.proofs.Capacity.{roomy_parts}
use Rattle.jobs.specs.Tables.{tabled}
use Rattle.jobs.proofs.AnswerLaws.{loaded_no}
use Rattle.jobs.proofs.Loads.{job_loaded_err, from_refused, from_short, from_room, rest_loaded}
use Rattle.jobs.proofs.load_job.Goals as goal

pub load_rest-requires : goal.load_rest-requires
load_rest-requires c =
    let z = sym c.in_ok-head_rule.ensures in
    let (_, l, k, f) = roomy_parts _ _ _ _ (sym c.if-not-roomy.ensures) in
    record { passed = z; room = omega (arith, l, f.2); links_room = omega (arith, k, f.0, f.1, (job_head_parts document01 _ z).0) }

pub returns-then-not-roomy : goal.returns-then-not-roomy
returns-then-not-roomy c = rw (from_short document01 _ _ _ _ _ (sym c.in_ok-head_rule.ensures) (sym c.if-not-roomy.ensures)) refl

pub returns-in_err-head_rule : goal.returns-in_err-head_rule
returns-in_err-head_rule c = job_loaded_err _ _ _ _ _ _ _ c.from_residual.ensures.1 (from_refused document01 _ _ _ _ _ _ c.in_err-head_rule.ensures)

pub returns-in_err-load_rest : goal.returns-in_err-load_rest
returns-in_err-load_rest c =
    let room = from_room document01 _ _ _ _ _ (sym c.in_ok-head_rule.ensures) (sym c.if-not-roomy.ensures) in
    job_loaded_err _ _ _ _ _ _ _ c.from_residual-in_err-load_rest.ensures.1 (room ∙ loaded_no _ _ _ _ c.in_err-load_rest.ensures)

pub returns : goal.returns
returns c =
    let z = sym c.in_ok-head_rule.ensures in
    let room = sym c.if-not-roomy.ensures in
    let (_, l, _, f) = roomy_parts _ _ _ _ room in
    rw (from_room document01 _ _ _ _ _ z room)
    (rest_loaded suited tabled c.args.capacity _ _ c.load_rest.new.mem _ z (c.load_rest.auto.mem ∙ l) f _ c.in_ok-load_rest.ensures)
