use Rattle.std.proofs.Common.{◌≡◌, ◌++◌}
use Rattle.replay_waves.specs.Parts.{code}
use Rattle.replay_waves.proofs.parts.add_code.Given as goal

-- the digits so far, and the code of what is left
abbrev pub invariant-loop-rest : goal.invariant-loop-rest
invariant-loop-rest l = l.out.items ++ code l.rest ≡ l.fn.out.items ++ code l.number

abbrev pub decreases-loop-rest : goal.decreases-loop-rest
decreases-loop-rest l = l.rest
