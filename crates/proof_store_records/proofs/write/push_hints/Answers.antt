use Rattle.std.proofs.Common.{◌≡◌, ◌++◌}
use Rattle.std.specs.List.{flat_map}
use Rattle.std.proofs.lemmas.Result.{on_ok_weaker}
use Rattle.proof_store_records.specs.Varint.{varint}
use Rattle.proof_store_records.specs.Layout.{distances, hints_bytes}
use Rattle.proof_store_records.proofs.RecordLemmas.{hints_written}
use Rattle.proof_store_records.proofs.write.push_hints.Goals as goal

pub returns-in-Second-clause-bytes : goal.returns-in-Second-clause-bytes
returns-in-Second-clause-bytes c =
    let end = c.push_distances.new.out.items in
    let all : end ≡ c.push_count.new.out.items ++ flat_map varint (distances c.args.hints.now) → end ≡ c.args.out.now.items ++ hints_bytes c.args.version c.args.hints.now
    = λ e. hints_written c.args.version c.in-Second.is c.args.hints.now c.args.out.now.items c.push_count.new.out.items end c.in_ok-push_count.ensures e in
    on_ok_weaker c.push_distances.result all c.push_distances.ensures
