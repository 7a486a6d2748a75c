use Rattle.std.proofs.Common.{◌≡◌, take}
use Rattle.elab_step_blocks.specs.Saving.{places_of}
use Rattle.elab_step_nets.proofs.outcomes.rising_places.Given as goal

abbrev pub invariant-loop-one : goal.invariant-loop-one
invariant-loop-one l = l.places.items ≡ places_of (take l.one-index l.saved)
