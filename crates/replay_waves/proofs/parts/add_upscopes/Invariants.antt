use Rattle.std.proofs.Common.{◌≡◌, ◌++◌, take}
use Rattle.replay_waves.specs.Parts.{upscopes}
use Rattle.replay_waves.proofs.parts.add_upscopes.Given as goal

-- the ends so far
abbrev pub invariant-loop-byte : goal.invariant-loop-byte
invariant-loop-byte l = l.out.items ≡ l.fn.out.items ++ upscopes (take l.byte-index l.path)
