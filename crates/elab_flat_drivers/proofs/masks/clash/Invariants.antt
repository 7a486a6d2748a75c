use Rattle.std.proofs.Common.{ℕ, drop, length}
use Rattle.elab_flat_drivers.specs.Claims.{IsClaimed}
use Rattle.elab_flat_drivers.specs.Masks.{IsSet, AreWithin}
use Rattle.elab_flat_drivers.proofs.masks.clash.Given as goal

abbrev pub invariant-loop-claim : goal.invariant-loop-claim
invariant-loop-claim l = record {
  within : AreWithin (length l.table) (drop l.claim-index l.claims);
  rest : (i b : ℕ) → IsClaimed l.claims i b → IsSet l.table i b → IsClaimed (drop l.claim-index l.claims) i b;
}
