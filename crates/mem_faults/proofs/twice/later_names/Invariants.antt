use Rattle.std.proofs.Common.{◌≡◌, ◌++◌, drop, map}
use Rattle.elab_flat_scopes.specs.Borrowed.{name_meant}
use Rattle.mem_faults.specs.Repeated.{entry_name, later_names}
use Rattle.mem_faults.proofs.twice.later_names.Given as goal

abbrev pub invariant-loop-place : goal.invariant-loop-place
invariant-loop-place l =
    map name_meant l.all.items ++ later_names l.names l.place (map entry_name (drop l.place l.entries)) ≡ later_names l.names 0 (map entry_name l.entries)
