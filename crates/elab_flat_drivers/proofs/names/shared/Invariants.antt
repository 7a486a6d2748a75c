use Rattle.std.proofs.Common.{drop, map}
use Rattle.vlog_tree_runs.specs.Places.{Name, Among}
use Rattle.elab_flat_scopes.specs.Borrowed.{name_meant}
use Rattle.elab_flat_drivers.proofs.names.shared.Given as goal

abbrev pub invariant-loop-name : goal.invariant-loop-name
invariant-loop-name l = (x : Name) → Among (map name_meant l.names) x → Among l.others x → Among (map name_meant (drop l.name-index l.names)) x
