use Rattle.std.proofs.Common.{◌≡◌, ◌++◌, drop, map}
use Rattle.vlog_tree.specs.declared.item.PortKind.TheVariants as k
use Rattle.vlog_tree_runs.specs.Contents.{bare, header_decls}
use Rattle.elab_flat_scopes.specs.Borrowed.{shape_meant, decl_meant}
use Rattle.elab_flat_scopes.proofs.decl.header_list.Given as goal

abbrev pub invariant-loop-port : goal.invariant-loop-port
invariant-loop-port l = map decl_meant l.all.items ++ header_decls l.group.kind (shape_meant l.group.shape) (drop l.port-index l.ports) ≡ header_decls k.Input bare l.ports
