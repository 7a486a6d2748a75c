use Rattle.std.proofs.Common.{◌≡◌, drop, length}
use Rattle.elab_flat_drivers.specs.Masks.{marked, AreWithin}
use Rattle.elab_flat_drivers.proofs.masks.mark.Given as goal

abbrev pub invariant-loop-claim : goal.invariant-loop-claim
invariant-loop-claim l = record {
  within : AreWithin (length l.table) (drop l.claim-index l.claims);
  same : marked l.table (drop l.claim-index l.claims) ≡ marked l.initial.table l.claims;
}
