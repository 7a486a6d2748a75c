use Rattle.std.proofs.Common.{◌≡◌, ◌++◌, drop, map}
use Rattle.std.specs.List.{flat_map}
use Rattle.vlog_tree.specs.declared.item.Assign.{Assign}
use Rattle.elab_flat_faults.specs.Drivers.{Part, parts_of}
use Rattle.elab_flat_drivers.specs.Driving.{driver_meant}
use Rattle.elab_flat_drivers.proofs.drivers.add_assigns.Given as goal

abbrev pub invariant-loop-assign : goal.invariant-loop-assign
invariant-loop-assign l =
    map driver_meant l.all.items ++ flat_map (λ (a : Assign). map Part (parts_of a.left)) (drop l.assign-index l.assigns)
    ≡ map driver_meant l.initial.all.items ++ flat_map (λ (a : Assign). map Part (parts_of a.left)) l.assigns
