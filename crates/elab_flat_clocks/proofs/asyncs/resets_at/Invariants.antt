use Rattle.std.proofs.Common.{◌≡◌, ◌++◌, drop, map}
use Rattle.elab_flat_scopes.specs.Borrowed.{name_meant}
use Rattle.elab_flat_clocks.specs.Driving.{timed_meant}
use Rattle.elab_flat_clocks.specs.Clocking.{resets_at}
use Rattle.elab_flat_clocks.proofs.asyncs.resets_at.Given as goal

abbrev pub invariant-loop-timing : goal.invariant-loop-timing
invariant-loop-timing l = map name_meant l.all.items ++ resets_at l.high (map timed_meant (drop l.timing-index l.timings)) ≡ resets_at l.high (map timed_meant l.timings)
