use Rattle.std.proofs.Common.{◌≡◌, ◌++◌, drop, map}
use Rattle.std.specs.List.{flat_map}
use Rattle.elab_flat_scopes.specs.Borrowed.{name_meant}
use Rattle.elab_flat_drivers.specs.Parts.{part_meant}
use Rattle.mem_faults.specs.Used.{whole_names}
use Rattle.mem_faults.proofs.survey.add_wholes.Given as goal

abbrev pub invariant-loop-part : goal.invariant-loop-part
invariant-loop-part l = map name_meant l.all.items ++ flat_map whole_names (map part_meant (drop l.part-index l.uses)) ≡ map name_meant l.initial.all.items ++ flat_map whole_names (map part_meant l.uses)
