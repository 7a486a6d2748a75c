use Rattle.std.proofs.Common.{◌≡◌, ◌++◌, take}
use Rattle.replay_waves.specs.Waves.{starts}
use Rattle.replay_waves.proofs.cycles.add_starts.Given as goal

-- those before this one
abbrev pub invariant-loop-k : goal.invariant-loop-k
invariant-loop-k l = l.out.items ≡ l.fn.out.items ++ starts l.number (take l.k l.firsts)
