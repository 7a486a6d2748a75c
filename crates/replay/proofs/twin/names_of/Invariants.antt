use Rattle.std.proofs.Common.{◌≡◌, map, take}
use Rattle.set_tree.specs.declared.set.Name.{Name}
use Rattle.replay.proofs.twin.names_of.Given as goal

abbrev pub invariant-loop-name : goal.invariant-loop-name
invariant-loop-name l = l.texts ≡ map (λ (name : Name). name.name) (take l.name-index l.names)
