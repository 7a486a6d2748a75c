use Rattle.std.proofs.Common.{◌≡◌, length}
use Rattle.proof_store_records.specs.Layout.{step_bytes, CanStand}
use Rattle.proof_store_records.specs.Records.{contents}
use Rattle.proof_store_records.proofs.FrontLemmas.{TakesMany}
use Rattle.proof_store_records.proofs.read.take_steps.Given as goal

abbrev pub invariant-loop : goal.invariant-loop
invariant-loop l = record {
  many : TakesMany (CanStand l.version) (step_bytes l.version) l.initial.rest (contents l.steps.items) l.rest;
  length_is : length l.steps.items ≡ l.counter;
}
