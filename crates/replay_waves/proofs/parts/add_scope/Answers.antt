use Rattle.std.proofs.Common.{refl, append_assoc}
use Rattle.replay_waves.specs.Parts.{scope}
use Rattle.replay_waves.proofs.parts.add_scope.Goals as goal

pub returns : goal.returns
unfolding scope
returns c = simp (append_assoc, c.in_ok-extend_from_slice.ensures.items, c.in_ok-extend_from_slice-2.ensures.items, c.in_ok-extend_from_slice-3.ensures.items) refl
