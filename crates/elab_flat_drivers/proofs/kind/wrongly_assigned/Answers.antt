use Rattle.elab_flat_drivers.proofs.Kinding.{rightly, none_is}
use Rattle.elab_flat_drivers.proofs.kind.wrongly_assigned.Goals as goal

pub returns-clause-none : goal.returns-clause-none
returns-clause-none c = λ x.
    rightly c.args.flat.now x (none_is c.in_ok-name.field-0 _ c.in_default.not-Some c.in_ok-name.ensures.none x)
    (none_is c.in_ok-name-2.field-0 _ c.in_default-2.not-Some c.in_ok-name-2.ensures.none x)
    (none_is c.in_ok-name-3.field-0 _ c.in_default-3.not-Some c.in_ok-name-3.ensures.none x)
