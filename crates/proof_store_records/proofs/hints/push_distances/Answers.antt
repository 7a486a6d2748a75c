use Rattle.std.proofs.Common.{◌+◌, ◌++◌, get_or, drop, ap, ◌∙◌, arith}
use Rattle.std.specs.List.{flat_map}
use Rattle.std.proofs.lemmas.List.{drop_more}
use Rattle.proof_store_records.specs.Varint.{varint}
use Rattle.proof_store_records.specs.Layout.{distances}
use Rattle.proof_store_records.proofs.DistanceLemmas.{written_more}
use Rattle.proof_store_records.proofs.hints.push_distances.Goals as goal

pub loop-hint-preserved : goal.loop-hint-preserved
loop-hint-preserved c =
    let later = c.in-Some.later.now in
    let i = c.loop-hint.hint-index in
    let hint = get_or later i 0 in
    written_more c.loop-hint.out.items c.push_varint-in-loop-hint.new.out.items (c.args.out.now.items ++ flat_map varint (distances c.args.hints.now)) c.loop-hint.before hint (drop i later) (drop (i + 1) later)
    (drop_more later i 0 (omega arith)) (c.in_ok-push_varint-2.ensures ∙ ap (λ n. c.loop-hint.out.items ++ varint n) c.distance.ensures) c.loop-hint.invariant
