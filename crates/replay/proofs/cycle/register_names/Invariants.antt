use Rattle.std.proofs.Common.{◌≡◌, map, take}
use Rattle.elab_flat_scopes.specs.Borrowed.{name_meant}
use Rattle.replay.specs.Segments.{register_name}
use Rattle.replay.proofs.cycle.register_names.Given as goal

abbrev pub invariant-loop-register : goal.invariant-loop-register
invariant-loop-register l = map name_meant l.names.items ≡ map register_name (take l.register-index l.register-items)
