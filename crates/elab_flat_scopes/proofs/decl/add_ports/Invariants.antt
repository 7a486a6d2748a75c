use Rattle.std.proofs.Common.{◌≡◌, ◌++◌, drop, map}
use Rattle.vlog_tree_runs.specs.Contents.{port_decl}
use Rattle.elab_flat_scopes.specs.Borrowed.{decl_meant}
use Rattle.elab_flat_scopes.proofs.decl.add_ports.Given as goal

abbrev pub invariant-loop-name : goal.invariant-loop-name
invariant-loop-name l = map decl_meant l.all.items ++ map (port_decl l.kind l.shape) (drop l.name-index l.names) ≡ map decl_meant l.initial.all.items ++ map (port_decl l.kind l.shape) l.names
