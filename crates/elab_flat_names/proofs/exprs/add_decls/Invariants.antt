use Rattle.std.proofs.Common.{◌≡◌, ◌++◌, drop, map}
use Rattle.std.specs.List.{flat_map}
use Rattle.elab_flat_faults.specs.Texts.{decl_exprs}
use Rattle.elab_flat_scopes.specs.Borrowed.{decl_meant}
use Rattle.elab_flat_names.specs.Exprs.{expr_meant}
use Rattle.elab_flat_names.proofs.exprs.add_decls.Given as goal

abbrev pub invariant-loop-decl : goal.invariant-loop-decl
invariant-loop-decl l = map expr_meant l.all.items ++ flat_map decl_exprs (map decl_meant (drop l.decl-index l.decls)) ≡ map expr_meant l.initial.all.items ++ flat_map decl_exprs (map decl_meant l.decls)
