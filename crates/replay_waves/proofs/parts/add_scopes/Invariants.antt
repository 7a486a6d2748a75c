use Rattle.std.proofs.Common.{◌≡◌, ◌++◌, [], drop}
use Rattle.replay_waves.specs.Parts.{last_part, scopes}
use Rattle.replay_waves.proofs.parts.add_scopes.Given as goal

-- the scopes so far, and those of the rest of the path
abbrev pub invariant-loop-byte : goal.invariant-loop-byte
invariant-loop-byte l = record {
  out : l.out.items ++ scopes l.part.items (drop l.byte-index l.path) ≡ l.fn.out.items ++ scopes [] l.path;
  last : last_part l.part.items (drop l.byte-index l.path) ≡ last_part [] l.path;
}
