use Rattle.std.proofs.Common.{◌≡◌, ◌<◌, ◌^◌, true, take}
use Rattle.std.specs.List.{list_all}
use Rattle.clause_check_texts.specs.Words.{is_digit, number_from}
use Rattle.clause_check_texts.proofs.words.size_of.Given as goal

-- the number of the digits so far
abbrev pub invariant-loop-byte : goal.invariant-loop-byte
invariant-loop-byte l = record {
  is : l.size ≡ number_from 0 (take l.byte-index l.word);
  small : l.size < 2 ^ 60;
  digits : list_all is_digit (take l.byte-index l.word) ≡ true;
}
