use Rattle.std.proofs.Common.{◌≡◌, ◌++◌, map, drop}
use Rattle.elab_flat_scopes.specs.Borrowed.{name_meant}
use Rattle.elab_step.specs.Sources.{signal_names}
use Rattle.elab_step.proofs.flags.signal_names.Given as goal

abbrev pub invariant-loop-signal : goal.invariant-loop-signal
invariant-loop-signal l = map name_meant l.all.items ++ signal_names (drop l.signal-index l.signals) ≡ signal_names l.signals
