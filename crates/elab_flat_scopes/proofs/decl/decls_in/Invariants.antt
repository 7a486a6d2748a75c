use Rattle.std.proofs.Common.{◌≡◌, ◌++◌, drop, map}
use Rattle.std.specs.List.{flat_map}
use Rattle.vlog_tree_runs.specs.Contents.{item_decls, ports_decls}
use Rattle.elab_flat_scopes.specs.Borrowed.{decl_meant}
use Rattle.elab_flat_scopes.proofs.decl.decls_in.Given as goal

abbrev pub invariant-loop-item : goal.invariant-loop-item
invariant-loop-item l = map decl_meant l.all.items ++ flat_map item_decls (drop l.item-index l.item-items) ≡ ports_decls l.text.ports ++ flat_map item_decls l.item-items
