use Rattle.std.proofs.Common.{length, ap, ◌∙◌, sym}
use Rattle.twin_tests.proofs.Finding.{passed_over}
use Rattle.twin_tests.proofs.leaves.row_leaf.Goals as goal

pub loop-i-preserved : goal.loop-i-preserved
loop-i-preserved c =
    passed_over c.args.names.now c.args.offset c.loop-i.i c.nodes-nodes.result.now c.index-names-i.result c.args.text.now _ c.loop-i-test.true (ap length c.nodes-nodes.ensures ∙ c.requires) c.index-names-i.is (sym c.is_named.ensures ∙ c.if-is_named.false) c.loop-i.invariant
