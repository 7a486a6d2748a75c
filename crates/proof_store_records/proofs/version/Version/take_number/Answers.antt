use Rattle.proof_store_records.specs.Layout.{number_bytes}
use Rattle.proof_store_records.proofs.version.Version.take_number.Goals as goal

pub returns-in-Second : goal.returns-in-Second
unfolding number_bytes
returns-in-Second c = rw c.in-Second.is c.take_varint.ensures
