use Rattle.std.proofs.Common.{◌≡◌, ◌++◌, drop, map}
use Rattle.elab_flat_scopes.specs.Borrowed.{name_meant}
use Rattle.mem_faults.specs.Repeated.{entry_name}
use Rattle.mem_faults.proofs.twice.names_of.Given as goal

abbrev pub invariant-loop-entry : goal.invariant-loop-entry
invariant-loop-entry l = map name_meant l.all.items ++ map entry_name (drop l.entry-index l.entries) ≡ map entry_name l.entries
