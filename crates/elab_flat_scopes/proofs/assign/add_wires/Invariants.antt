use Rattle.std.proofs.Common.{◌≡◌, ◌++◌, drop, map}
use Rattle.std.specs.List.{flat_map}
use Rattle.vlog_tree_runs.specs.Contents.{wire_assign}
use Rattle.elab_flat_scopes.specs.Borrowed.{assigned_meant}
use Rattle.elab_flat_scopes.proofs.assign.add_wires.Given as goal

abbrev pub invariant-loop-wire : goal.invariant-loop-wire
invariant-loop-wire l = map assigned_meant l.all.items ++ flat_map wire_assign (drop l.wire-index l.wires) ≡ map assigned_meant l.initial.all.items ++ flat_map wire_assign l.wires
