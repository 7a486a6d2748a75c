use Rattle.std.proofs.Common.{◌≡◌, ◌++◌, take}
use Rattle.replay_waves.specs.Waves.{register_scopes}
use Rattle.replay_waves.proofs.scopes.add_registers.Given as goal

-- those before this one
abbrev pub invariant-loop-k : goal.invariant-loop-k
invariant-loop-k l = l.out.items ≡ l.fn.out.items ++ register_scopes l.number (take l.k l.firsts)
