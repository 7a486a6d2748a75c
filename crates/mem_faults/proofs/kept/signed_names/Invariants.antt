use Rattle.std.proofs.Common.{◌≡◌, ◌++◌, drop, map}
use Rattle.std.specs.List.{flat_map}
use Rattle.elab_flat_scopes.specs.Borrowed.{name_meant}
use Rattle.mem_faults.specs.Kept.{signed_names}
use Rattle.mem_faults.proofs.kept.signed_names.Given as goal

abbrev pub invariant-loop-signal : goal.invariant-loop-signal
invariant-loop-signal l = map name_meant l.all.items ++ flat_map signed_names (drop l.signal-index l.signals) ≡ flat_map signed_names l.signals
