use Rattle.std.proofs.Common.{◌≡◌, inr}
use Rattle.proof_store_records.specs.Records.{version_2, HasClauses, IsRecord}
use Rattle.proof_store_records.proofs.RecordLemmas.{ok_both}
use Rattle.proof_store_records.proofs.write.write_steps.Goals as goal

pub returns-clause-is_record : goal.returns-clause-is_record
returns-clause-is_record c =
    let steps = c.args.steps.now in
    ok_both c.write_version.result (λ bytes. bytes.items ≡ version_2 steps) (HasClauses steps) (λ bytes. IsRecord bytes.items steps) (λ bytes is distinct. (distinct, inr (c.requires, is)))
    c.write_version.ensures.bytes c.write_version.ensures.clauses
