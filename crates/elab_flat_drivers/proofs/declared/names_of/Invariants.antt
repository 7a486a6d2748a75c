use Rattle.std.proofs.Common.{◌≡◌, ◌++◌, drop, map}
use Rattle.elab_flat_scopes.specs.Borrowed.{name_meant}
use Rattle.elab_flat_drivers.specs.Spots.{signal_name}
use Rattle.elab_flat_drivers.proofs.declared.names_of.Given as goal

abbrev pub invariant-loop-signal : goal.invariant-loop-signal
invariant-loop-signal l = map name_meant l.names.items ++ map signal_name (drop l.signal-index l.signals) ≡ map signal_name l.signals
