use Rattle.std.proofs.Common.{◌≡◌, map, take}
use Rattle.replay_waves.specs.Lines.{signal_of}
use Rattle.replay_waves.proofs.line.signals_of.Given as goal

-- those so far
abbrev pub invariant-loop-name : goal.invariant-loop-name
invariant-loop-name l = l.signals ≡ map signal_of (take l.name-index l.names)
