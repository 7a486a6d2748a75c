use Rattle.proof_store_records.specs.Layout.{count_bytes}
use Rattle.proof_store_records.proofs.version.Version.take_count.Goals as goal

pub returns-in-Second : goal.returns-in-Second
unfolding count_bytes
returns-in-Second c = rw c.in-Second.is c.take_varint.ensures
