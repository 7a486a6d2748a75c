use Rattle.std.proofs.Common.{◌≡◌, ◌++◌, take, map}
use Rattle.signoff_places.specs.Lines.{shown}
use Rattle.signoff_places.proofs.place.add_shown.Given as goal

abbrev pub invariant-loop-byte : goal.invariant-loop-byte
invariant-loop-byte l = l.out.items ≡ l.initial.out.items ++ map shown (take l.byte-index l.bytes)
