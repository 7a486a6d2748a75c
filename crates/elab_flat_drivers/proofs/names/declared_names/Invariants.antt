use Rattle.std.proofs.Common.{◌≡◌, ◌++◌, drop, map}
use Rattle.std.specs.List.{flat_map}
use Rattle.elab_flat_scopes.specs.Borrowed.{name_meant}
use Rattle.elab_flat_drivers.specs.Names.{declared_names}
use Rattle.elab_flat_drivers.proofs.names.declared_names.Given as goal

abbrev pub invariant-loop-signal : goal.invariant-loop-signal
invariant-loop-signal l = map name_meant l.all.items ++ flat_map (declared_names l.reg) (drop l.signal-index l.signals) ≡ flat_map (declared_names l.reg) l.signals
