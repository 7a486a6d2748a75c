use Rattle.std.proofs.Common.{◌≡◌, ◌++◌, drop}
use Rattle.elab_step.specs.Sources.{flags_among}
use Rattle.elab_step.proofs.flags.flags_among.Given as goal

abbrev pub invariant-loop-signal : goal.invariant-loop-signal
invariant-loop-signal l = l.all.items ++ flags_among l.names (drop l.signal-index l.signals) ≡ flags_among l.names l.signals
