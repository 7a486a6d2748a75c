use Rattle.std.proofs.Common.{◌≡◌, ◌++◌, drop, map, filter}
use Rattle.vlog_tree_runs.specs.Contents.{Decl}
use Rattle.elab_flat_scopes.specs.Borrowed.{name_meant, decl_meant}
use Rattle.elab_flat_scopes.specs.Finding.{decl_name}
use Rattle.elab_flat.proofs.port.output_names.Given as goal

abbrev pub invariant-loop-decl : goal.invariant-loop-decl
invariant-loop-decl l =
    map name_meant l.names.items ++ map decl_name (filter (λ (d : Decl). d.output) (map decl_meant (drop l.decl-index l.decls)))
    ≡ map decl_name (filter (λ (d : Decl). d.output) (map decl_meant l.decls))
