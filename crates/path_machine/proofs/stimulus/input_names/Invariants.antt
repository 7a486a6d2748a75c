use Rattle.std.proofs.Common.{◌≡◌, map, take}
use Rattle.std.specs.List.{filter}
use Rattle.elab_flat_scopes.specs.Borrowed.{name_meant}
use Rattle.set_tree.specs.declared.set.Name.{Name}
use Rattle.set_tree.specs.Parts.{is_input}
use Rattle.path_machine.specs.Stimuli.{name_of}
use Rattle.path_machine.proofs.stimulus.input_names.Given as goal

-- the inputs among the names so far
abbrev pub invariant-loop-name : goal.invariant-loop-name
invariant-loop-name l = map name_meant l.names.items ≡ map name_of (filter (λ (n : Name). is_input n.role) (take l.name-index l.name-items))
