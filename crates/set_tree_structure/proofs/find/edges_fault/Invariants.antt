use Rattle.std.proofs.Common.{◌≡◌, drop}
use Rattle.std.specs.List.{find, flat_map}
use Rattle.set_tree_structure.specs.Faults.{edge_faults, edges_faults}
use Rattle.set_tree_structure.specs.Tests.{stands}
use Rattle.set_tree_structure.proofs.find.edges_fault.Given as goal

abbrev pub invariant-loop-next : goal.invariant-loop-next
invariant-loop-next l = find (stands l.set) (flat_map (edge_faults l.set l.at) (drop l.next-index l.next-items)) ≡ find (stands l.set) (edges_faults l.set l.at)
