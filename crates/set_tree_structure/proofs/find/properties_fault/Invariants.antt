use Rattle.std.proofs.Common.{◌≡◌, suc, ◌-◌, length}
use Rattle.std.specs.List.{find, flat_map}
use Rattle.set_tree_structure.specs.Faults.{positions, property_faults}
use Rattle.set_tree_structure.specs.Tests.{stands}
use Rattle.set_tree_structure.proofs.find.properties_fault.Given as goal

abbrev pub invariant-loop-at : goal.invariant-loop-at
invariant-loop-at l = find (stands l.set) (flat_map (property_faults l.set) (positions l.at (suc (length l.set.operations) - l.at))) ≡ find (stands l.set) (flat_map (property_faults l.set) (positions 0 (suc (length l.set.operations))))
