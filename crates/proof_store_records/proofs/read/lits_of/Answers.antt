use Rattle.std.proofs.Common.{arith}
use Rattle.proof_store_records.proofs.LitLemmas.{value_over}
use Rattle.proof_store_records.proofs.read.lits_of.Goals as goal

pub returns-in_default : goal.returns-in_default
returns-in_default c = value_over c.args.values.now c.loop-value.value-index c.loop-value-test.true (omega (arith, c.in_default.ensures))
