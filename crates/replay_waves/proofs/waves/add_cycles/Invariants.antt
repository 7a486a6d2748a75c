use Rattle.std.proofs.Common.{◌≡◌, ◌++◌}
use Rattle.replay_waves.specs.Waves.{cycle_text, each}
use Rattle.replay_waves.proofs.waves.add_cycles.Given as goal

-- the cycles before this one
abbrev pub invariant-loop-i : goal.invariant-loop-i
invariant-loop-i l = l.out.items ≡ l.fn.out.items ++ each (cycle_text l.wave) l.i
