use Rattle.std.proofs.Common.{◌≡◌, take}
use Rattle.replay_waves.specs.Lines.{firsts_of}
use Rattle.replay_waves.proofs.line.firsts_of.Given as goal

-- those so far
abbrev pub invariant-loop-i : goal.invariant-loop-i
invariant-loop-i l = l.firsts ≡ firsts_of (take l.i l.registers) (take l.i l.starts)
