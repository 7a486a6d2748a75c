use Rattle.std.proofs.Common.{refl, subst, length}
use Rattle.elab_flat_drivers.specs.Masks.{AreWithin}
use Rattle.elab_flat_drivers.proofs.Marking.{both_bits, at_place, among_at, passes}
use Rattle.elab_flat_drivers.proofs.masks.clash.Goals as goal

pub returns-then-common-ne0-clause-some : goal.returns-then-common-ne0-clause-some
returns-then-common-ne0-clause-some c =
    record { claim = _; among = among_at c.args.claims.now c.loop-claim.claim-index _ c.loop-claim-test.true; at = refl; set = (both_bits _ _ _ c.lowest.ensures.set).1 }

pub returns-then-common-ne0-clause-set : goal.returns-then-common-ne0-clause-set
returns-then-common-ne0-clause-set c = (both_bits _ _ _ c.lowest.ensures.set).0

pub loop-claim-preserved : goal.loop-claim-preserved
loop-claim-preserved c =
    let rest = at_place c.args.claims.now c.loop-claim.claim-index (record { place = 0; bits = 0 }) c.loop-claim-test.true in
    record {
      within = (subst (AreWithin (length c.args.table.now)) rest c.loop-claim.invariant.within).1;
      rest = λ i b h g. passes c.args.table.now c.args.claims.now c.loop-claim.claim-index _ c.loop-claim-test.true c.if-common-ne0.false i b g (c.loop-claim.invariant.rest i b h g);
    }
