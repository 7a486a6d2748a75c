use Rattle.std.proofs.Common.{◌≡◌, ◌++◌, drop}
use Rattle.elab_step_flow.specs.Cases.{at_rest}
use Rattle.elab_step_flow.proofs.scope.all_at_rest.Given as goal

abbrev pub invariant-loop-signal : goal.invariant-loop-signal
invariant-loop-signal l = l.all ++ at_rest (drop l.signal-index l.signals) ≡ at_rest l.signals
