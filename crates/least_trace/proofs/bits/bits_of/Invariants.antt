use Rattle.std.proofs.Common.{◌≡◌, take}
use Rattle.std.specs.List.{flat_map}
use Rattle.least_trace.specs.Bits.{bits_of}
use Rattle.least_trace.proofs.bits.bits_of.Given as goal

-- the bits of the words so far
abbrev pub invariant-loop-word : goal.invariant-loop-word
invariant-loop-word l = l.bits.items ≡ flat_map bits_of (take l.word-index l.words)
