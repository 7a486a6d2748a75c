use Rattle.std.proofs.Common.{◌≡◌, ◌++◌, drop, map}
use Rattle.std.specs.List.{flat_map}
use Rattle.elab_flat_scopes.specs.Borrowed.{name_meant}
use Rattle.mem_faults.specs.Used.{memory_names}
use Rattle.mem_faults.proofs.survey.memories.Given as goal

abbrev pub invariant-loop-signal : goal.invariant-loop-signal
invariant-loop-signal l = map name_meant l.all.items ++ flat_map memory_names (drop l.signal-index l.signals) ≡ flat_map memory_names l.signals
