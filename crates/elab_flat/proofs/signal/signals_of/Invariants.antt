use Rattle.std.proofs.Common.{◌≡◌, ◌++◌, drop, map}
use Rattle.std.specs.List.{flat_map}
use Rattle.elab_flat_laws.specs.Flattened.{flat_signals}
use Rattle.elab_flat_instances.specs.Unfolding.{scope_meant}
use Rattle.elab_flat.proofs.signal.signals_of.Given as goal

abbrev pub invariant-loop-scope : goal.invariant-loop-scope
invariant-loop-scope l = l.all ++ flat_map flat_signals (map scope_meant (drop l.scope-index l.scopes)) ≡ flat_map flat_signals (map scope_meant l.scopes)
