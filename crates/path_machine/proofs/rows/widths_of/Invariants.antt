use Rattle.std.proofs.Common.{◌≡◌, map, take}
use Rattle.std.specs.List.{filter}
use Rattle.set_tree.specs.declared.set.Name.{Name}
use Rattle.set_tree.specs.Parts.{is_input}
use Rattle.path_machine.specs.Rows.{width_of}
use Rattle.path_machine.proofs.rows.widths_of.Given as goal

-- the lengths of the inputs among the names so far
abbrev pub invariant-loop-name : goal.invariant-loop-name
invariant-loop-name l = l.widths.items ≡ map width_of (filter (λ (n : Name). is_input n.role) (take l.name-index l.name-items))
