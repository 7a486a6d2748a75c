use Rattle.std.proofs.Common.{◌≡◌, ◌++◌, drop, map}
use Rattle.elab_flat_scopes.specs.Borrowed.{name_meant, decl_meant}
use Rattle.elab_flat_scopes.specs.Finding.{decl_name}
use Rattle.elab_flat_names.proofs.declared.add_decl_names.Given as goal

abbrev pub invariant-loop-decl : goal.invariant-loop-decl
invariant-loop-decl l = map name_meant l.all.items ++ map decl_name (map decl_meant (drop l.decl-index l.decls)) ≡ map name_meant l.initial.all.items ++ map decl_name (map decl_meant l.decls)
