use Rattle.std.proofs.Common.{length, arith}
use Rattle.test_judges.proofs.Invariants.{readable_each}
use Rattle.test_judges.proofs.segments.meets_invariants.Goals as goal

pub holds-requires-clause-readable : goal.holds-requires-clause-readable
holds-requires-clause-readable c =
    readable_each c.args.set.now c.set.result.now c.as_slice-rule-items.result.now c.loop-rule.rule-index (length c.args.rows.now) c.rule-item.result c.set.ensures.value c.as_slice-rule-items.ensures c.rule-item.is (omega arith) c.set.ensures.sound c.set.ensures.formed c.requires.some
