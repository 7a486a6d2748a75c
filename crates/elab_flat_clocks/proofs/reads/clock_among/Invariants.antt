use Rattle.std.proofs.Common.{◌≡◌, Some, drop, map}
use Rattle.vlog_tree_runs.specs.Places.{Name, Among}
use Rattle.elab_flat_scopes.specs.Borrowed.{name_meant}
use Rattle.elab_flat_clocks.specs.Tables.{input_at}
use Rattle.elab_flat_clocks.proofs.reads.clock_among.Given as goal

abbrev pub invariant-loop-name : goal.invariant-loop-name
invariant-loop-name l = (x : Name) → Among (map name_meant l.names) x × (input_at l.table x ≡ Some l.clock) → Among (map name_meant (drop l.name-index l.names)) x
