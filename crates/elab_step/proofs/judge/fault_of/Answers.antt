use Rattle.elab_flat_drivers.proofs.Kinding.{none_is}
use Rattle.elab_step.proofs.Judging.{clean}
use Rattle.elab_step.proofs.judge.fault_of.Goals as goal

pub returns-clause-clean : goal.returns-clause-clean
returns-clause-clean c =
    clean c.args.flat.now (none_is c.in_ok-name.field-0 _ c.in_default.not-Some c.in_ok-name.ensures.none) (none_is c.in_ok-name-3.field-0 _ c.in_default-3.not-Some c.in_ok-name-3.ensures.none)
    (none_is c.in_ok-name-4.field-0 _ c.in_default-4.not-Some c.in_ok-name-4.ensures.none) (none_is c.in_ok-name-5.field-0 _ c.in_default-5.not-Some c.in_ok-name-5.ensures.none)
    (none_is c.in_ok-name-6.field-0 _ c.in_default-6.not-Some c.in_ok-name-6.ensures.none)
