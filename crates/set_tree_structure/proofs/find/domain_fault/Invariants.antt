use Rattle.std.proofs.Common.{◌≡◌, ◌-◌, length, map}
use Rattle.std.specs.List.{find}
use Rattle.set_tree_structure.specs.declared.fault.GraphFault.TheVariants as g
use Rattle.set_tree_structure.specs.declared.fault.Place.TheVariants as at
use Rattle.set_tree_structure.specs.Faults.{positions, domain_faults}
use Rattle.set_tree_structure.specs.Tests.{stands}
use Rattle.set_tree_structure.proofs.find.domain_fault.Given as goal

abbrev pub invariant-loop-at : goal.invariant-loop-at
invariant-loop-at l = find (stands l.set) (map (λ i. g.Offset (at.Output i)) (positions l.at (length l.set.names - l.at))) ≡ find (stands l.set) (domain_faults l.set)
