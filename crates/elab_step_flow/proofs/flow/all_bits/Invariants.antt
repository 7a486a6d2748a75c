use Rattle.std.proofs.Common.{◌≡◌, ◌++◌, drop, map}
use Rattle.elab_step_flow.specs.Words.{all_ones}
use Rattle.elab_step_flow.proofs.flow.all_bits.Given as goal

abbrev pub invariant-loop-signal : goal.invariant-loop-signal
invariant-loop-signal l = l.words.items ++ map all_ones (drop l.signal-index l.signals) ≡ map all_ones l.signals
