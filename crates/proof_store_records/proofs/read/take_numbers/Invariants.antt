use Rattle.std.proofs.Common.{◌≡◌, ◌<◌, ◌^◌, length}
use Rattle.proof_store_records.specs.Layout.{number_bytes}
use Rattle.proof_store_records.proofs.FrontLemmas.{TakesMany}
use Rattle.proof_store_records.proofs.read.take_numbers.Given as goal

abbrev pub invariant-loop : goal.invariant-loop
invariant-loop l = record {
  many : TakesMany (λ n. n < 2 ^ 64) (number_bytes l.version) l.initial.rest l.numbers.items l.rest;
  length_is : length l.numbers.items ≡ l.counter;
}
