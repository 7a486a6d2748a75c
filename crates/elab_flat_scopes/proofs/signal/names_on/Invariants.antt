use Rattle.std.proofs.Common.{◌≡◌, ◌++◌, drop, map}
use Rattle.elab_flat_scopes.specs.Borrowed.{name_meant, decl_meant}
use Rattle.elab_flat_scopes.specs.Sides.{names_on}
use Rattle.elab_flat_scopes.proofs.signal.names_on.Given as goal

abbrev pub invariant-loop-decl : goal.invariant-loop-decl
invariant-loop-decl l = map name_meant l.names.items ++ names_on l.side (map decl_meant (drop l.decl-index l.decls)) ≡ names_on l.side (map decl_meant l.decls)
