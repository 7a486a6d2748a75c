use Rattle.std.proofs.Common.{refl}
use Rattle.elab_flat_drivers.specs.Parts.{part_meant}
use Rattle.elab_flat_drivers.proofs.Naming.{meant_at}
use Rattle.elab_flat_drivers.proofs.lacking.named.Goals as goal

pub add_claim-requires-clause-ready : goal.add_claim-requires-clause-ready
add_claim-requires-clause-ready c =
    c.requires.ready _ (meant_at part_meant _ _ _ c.loop-part.part-index c.part-item.result c.loop-part-test.true c.part-item.is refl refl)
