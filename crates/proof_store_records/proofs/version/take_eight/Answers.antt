use Rattle.std.proofs.Common.{ap, ◌∙◌, arith}
use Rattle.std.specs.Int.{w64, from_be_bytes}
use Rattle.proof_store_records.proofs.FixedLemmas.{lacks_eight, starts_eight}
use Rattle.proof_store_records.proofs.version.take_eight.Goals as goal

pub returns-in_err-head : goal.returns-in_err-head
returns-in_err-head c = rw c.from_residual.ensures (lacks_eight c.args.bytes.now c.in_err-head.ensures.cases)

pub returns : goal.returns
returns c =
    let parts = c.in_ok-head.ensures.cases in
    rw parts.1 (starts_eight c.args.bytes.now c.from_be_bytes.result (omega (arith, parts.2)) (λ i. (c.type_inv.bytes i).fits)
    (c.from_be_bytes.ensures ∙ ap (from_be_bytes w64) parts.0) c.from_be_bytes.type_inv)
