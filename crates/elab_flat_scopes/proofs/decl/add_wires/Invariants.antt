use Rattle.std.proofs.Common.{◌≡◌, ◌++◌, drop, map}
use Rattle.vlog_tree_runs.specs.Contents.{wire_decl}
use Rattle.elab_flat_scopes.specs.Borrowed.{decl_meant}
use Rattle.elab_flat_scopes.proofs.decl.add_wires.Given as goal

abbrev pub invariant-loop-wire : goal.invariant-loop-wire
invariant-loop-wire l = map decl_meant l.all.items ++ map (wire_decl l.shape) (drop l.wire-index l.wires) ≡ map decl_meant l.initial.all.items ++ map (wire_decl l.shape) l.wires
