use Rattle.std.proofs.Common.{◌≡◌, ◌++◌, map, drop}
use Rattle.elab_flat_scopes.specs.Borrowed.{name_meant}
use Rattle.elab_step_nets.specs.Boards.{names_of}
use Rattle.elab_step.proofs.flags.names_at.Given as goal

abbrev pub invariant-loop-place : goal.invariant-loop-place
invariant-loop-place l = map name_meant l.all.items ++ names_of l.signals (drop l.place-index l.places) ≡ names_of l.signals l.places
