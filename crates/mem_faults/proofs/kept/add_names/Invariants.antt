use Rattle.std.proofs.Common.{◌≡◌, ◌++◌, drop, map}
use Rattle.elab_flat_scopes.specs.Borrowed.{name_meant}
use Rattle.mem_faults.proofs.kept.add_names.Given as goal

abbrev pub invariant-loop-name : goal.invariant-loop-name
invariant-loop-name l = map name_meant l.all.items ++ map name_meant (drop l.name-index l.names) ≡ map name_meant l.initial.all.items ++ map name_meant l.names
