use Rattle.std.proofs.Common.{◌≡◌, ◌++◌, take}
use Rattle.replay_waves.specs.Waves.{changes}
use Rattle.replay_waves.proofs.cycles.add_changes.Given as goal

-- those before this one
abbrev pub invariant-loop-k : goal.invariant-loop-k
invariant-loop-k l = l.out.items ≡ l.fn.out.items ++ changes (take l.k l.signals) l.window.rows.now l.number l.i
