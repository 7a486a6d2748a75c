use Rattle.std.proofs.Common.{◌≢◌, take}
use Rattle.std.specs.List.{All}
use Rattle.path_machine.proofs.words.count_before.Given as goal

-- none so far
abbrev pub invariant-loop-i : goal.invariant-loop-i
invariant-loop-i l = All (λ c. c ≢ l.stop) (take l.i l.bytes)
