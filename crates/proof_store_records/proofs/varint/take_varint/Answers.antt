use Rattle.std.proofs.Common.{◌<◌, ◌^◌}
use Rattle.proof_store_records.specs.Front.{Lacks, Starts}
use Rattle.proof_store_records.specs.Varint.{low_first, varint, HasDigits}
use Rattle.proof_store_records.proofs.FrontLemmas.{option_weaker}
use Rattle.proof_store_records.proofs.VarintLemmas.{lacks_varint, starts_varint}
use Rattle.proof_store_records.proofs.varint.take_varint.Goals as goal

pub returns : goal.returns
returns c =
    let bytes = c.args.bytes.now in
    option_weaker c.take_digits.result (Lacks (HasDigits 9) (low_first 9) bytes) (Lacks (λ n. n < 2 ^ 64) varint bytes)
    (λ r. Starts (HasDigits 9) (low_first 9) bytes r.0 r.1.now) (λ r. Starts (λ n. n < 2 ^ 64) varint bytes r.0 r.1.now)
    (λ none. lacks_varint bytes none) (λ r s. starts_varint bytes r.1.now r.0 s) c.take_digits.ensures
