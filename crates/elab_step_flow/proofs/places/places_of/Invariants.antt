use Rattle.std.proofs.Common.{◌≡◌, ◌++◌, drop, map}
use Rattle.elab_flat_drivers.specs.Parts.{part_meant}
use Rattle.elab_step_flow.specs.Edges.{part_places}
use Rattle.elab_step_flow.proofs.places.places_of.Given as goal

abbrev pub invariant-loop-part : goal.invariant-loop-part
invariant-loop-part l = l.all.items ++ part_places l.names (map part_meant (drop l.part-index l.parts)) ≡ part_places l.names (map part_meant l.parts)
