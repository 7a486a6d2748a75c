use Rattle.std.proofs.Common.{◌≡◌, ◌*◌, ◌<◌, take}
use Rattle.std.specs.Prelude.{◌^◌}
use Rattle.signoff_words.specs.Numbers.{number_from}
use Rattle.signoff_words.proofs.number.number_of.Given as goal

-- the number of the digits so far
abbrev pub invariant-loop-byte : goal.invariant-loop-byte
invariant-loop-byte l = record { is : l.number ≡ number_from 0 (take l.byte-index l.word); small : l.number < 2 ^ (4 * l.byte-index) }
