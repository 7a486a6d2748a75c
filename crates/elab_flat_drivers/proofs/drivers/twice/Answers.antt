use Rattle.std.proofs.Common.{refl}
use Rattle.elab_flat_drivers.specs.Driving.{driver_meant}
use Rattle.elab_flat_drivers.proofs.Naming.{meant_at}
use Rattle.elab_flat_drivers.proofs.Twice.{claims_within}
use Rattle.elab_flat_drivers.proofs.drivers.twice.Goals as goal

pub driver_claims-requires-clause-ready : goal.driver_claims-requires-clause-ready
driver_claims-requires-clause-ready c =
    c.requires.ready _ (meant_at driver_meant _ _ _ c.loop-driver.driver-index c.driver-item.result c.loop-driver-test.true c.driver-item.is refl refl)

pub clash-requires : goal.clash-requires
clash-requires c =
    claims_within c.args.signals.now _ _ _ _ (driver_meant c.driver-item.result) c.deref.ensures.value c.loop-driver.invariant.long c.deref-in-loop-driver.ensures.value c.in_ok-claims.ensures

pub mark-requires : goal.mark-requires
mark-requires c =
    claims_within c.args.signals.now _ _ _ _ (driver_meant c.driver-item.result) c.deref_mut.ensures.value c.loop-driver.invariant.long c.deref-in-loop-driver-2.ensures.value c.in_ok-claims.ensures
