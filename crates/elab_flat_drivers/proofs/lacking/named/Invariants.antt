use Rattle.std.proofs.Common.{◌≡◌, ◌++◌, drop, map}
use Rattle.std.specs.List.{flat_map}
use Rattle.elab_flat_drivers.specs.Parts.{part_meant}
use Rattle.elab_flat_drivers.specs.Claims.{part_claims}
use Rattle.elab_flat_drivers.proofs.lacking.named.Given as goal

abbrev pub invariant-loop-part : goal.invariant-loop-part
invariant-loop-part l = l.claims.items ++ flat_map (part_claims l.signals) (map part_meant (drop l.part-index l.parts)) ≡ flat_map (part_claims l.signals) (map part_meant l.parts)
