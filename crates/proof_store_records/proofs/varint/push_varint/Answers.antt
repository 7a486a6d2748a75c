use Rattle.std.proofs.Common.{arith, append_assoc}
use Rattle.std.proofs.lemmas.Grind.{common_steps}
use Rattle.proof_store_records.proofs.VarintLemmas.{varint-short, varint-long}
use Rattle.proof_store_records.proofs.varint.push_varint.Goals as goal

pub loop-left-preserved : goal.loop-left-preserved
loop-left-preserved c =
    let e = varint-long c.loop-left.left (omega arith) (omega (arith, c.loop-left.auto.left-fits)) in
    grind (arith, common_steps, append_assoc)

pub returns : goal.returns
returns c =
    let e = varint-short c.loop-left.left (omega arith) in
    grind (arith, common_steps, append_assoc)
