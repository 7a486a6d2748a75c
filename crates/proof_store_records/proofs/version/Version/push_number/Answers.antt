use Rattle.std.proofs.Common.{rules}
use Rattle.proof_store_records.specs.Layout.{number_bytes}
use Rattle.proof_store_records.proofs.version.Version.push_number.Goals as goal

pub returns-in-First : goal.returns-in-First
unfolding number_bytes
returns-in-First c = rw c.in-First.is (search rules)

pub returns-in-Second : goal.returns-in-Second
unfolding number_bytes
returns-in-Second c = rw c.in-Second.is c.push_varint.ensures
