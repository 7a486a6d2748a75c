use Rattle.std.proofs.Common.{drop, map}
use Rattle.vlog_tree_runs.specs.Places.{Among}
use Rattle.vlog_tree_runs.specs.Contents.{Decl}
use Rattle.elab_flat_scopes.specs.Borrowed.{decl_meant}
use Rattle.elab_flat_names.specs.Rows.{IsStray}
use Rattle.elab_flat_names.proofs.again.misfit.Given as goal

abbrev pub invariant-loop-second : goal.invariant-loop-second
invariant-loop-second l =
    (e : Decl) → Among (map decl_meant l.seconds) e → IsStray l.scope.text.now l.scope.params (map decl_meant l.decls) e → Among (map decl_meant (drop l.second-index l.seconds)) e
