use Rattle.std.proofs.Common.{◌≡◌, ◌++◌, drop, map}
use Rattle.elab_flat_scopes.specs.Borrowed.{name_meant}
use Rattle.elab_flat_names.specs.Rows.{entry_names}
use Rattle.elab_flat_names.proofs.declared.add_entry_names.Given as goal

abbrev pub invariant-loop-entry : goal.invariant-loop-entry
invariant-loop-entry l = map name_meant l.all.items ++ entry_names (drop l.entry-index l.entries) ≡ map name_meant l.initial.all.items ++ entry_names l.entries
