use Rattle.std.proofs.Common.{ap, ◌∙◌, arith}
use Rattle.std.specs.Int.{w32, from_be_bytes}
use Rattle.proof_store_records.proofs.FixedLemmas.{lacks_four, starts_four}
use Rattle.proof_store_records.proofs.version.take_four.Goals as goal

pub returns-in_err-head : goal.returns-in_err-head
returns-in_err-head c = rw c.from_residual.ensures (lacks_four c.args.bytes.now c.in_err-head.ensures.cases)

pub returns : goal.returns
returns c =
    let parts = c.in_ok-head.ensures.cases in
    rw parts.1 (starts_four c.args.bytes.now c.from.result (omega (arith, parts.2)) (λ i. (c.type_inv.bytes i).fits)
    (c.from.ensures ∙ (c.from_be_bytes.ensures ∙ ap (from_be_bytes w32) parts.0)) (omega (arith, c.from.ensures, c.from_be_bytes.type_inv)))
