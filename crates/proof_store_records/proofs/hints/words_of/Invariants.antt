use Rattle.std.proofs.Common.{◌≡◌, ◌<◌, ◌^◌, All, take}
use Rattle.proof_store_records.proofs.hints.words_of.Given as goal

abbrev pub invariant-loop-number : goal.invariant-loop-number
invariant-loop-number l = record {
  below : All (λ n. n < 2 ^ 32) l.words.items;
  same : l.words.items ≡ take l.number-index l.numbers;
}
