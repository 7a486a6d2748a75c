use Rattle.std.proofs.Common.{◌⊎◌, drop, map}
use Rattle.vlog_tree_runs.specs.Places.{Among}
use Rattle.vlog_tree_runs.specs.Contents.{Decl}
use Rattle.elab_flat_scopes.specs.Borrowed.{decl_meant}
use Rattle.elab_flat_params.specs.Signals.{IsDeclared}
use Rattle.elab_flat_widths.proofs.declared.check_each.Given as goal

abbrev pub invariant-loop-decl : goal.invariant-loop-decl
invariant-loop-decl l = (d : Decl) → Among (map decl_meant l.decls) d → (IsDeclared l.scope.params d) ⊎ Among (map decl_meant (drop l.decl-index l.decls)) d
