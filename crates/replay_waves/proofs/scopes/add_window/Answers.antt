use Rattle.std.proofs.Common.{refl, append_assoc}
use Rattle.replay_waves.specs.Waves.{window_scope}
use Rattle.replay_waves.proofs.scopes.add_window.Goals as goal

pub returns : goal.returns
unfolding window_scope
returns c = simp (append_assoc, c.in_ok-extend_from_slice.ensures.items, c.in_ok-add_signals.ensures, c.in_ok-add_own-2.ensures, c.in_ok-add_own.ensures, c.in_ok-add_scope.ensures, c.bytes.ensures, c.as_slice.ensures) refl
