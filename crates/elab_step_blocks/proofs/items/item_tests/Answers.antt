use Rattle.std.proofs.Common.{◌<◌, length, sym, subst, arith}
use Rattle.vlog_tree_runs.specs.Blocks.{case_width}
use Rattle.elab_step_expr.specs.Leaves.{declared}
use Rattle.elab_step_expr.proofs.Kept.{keeps_then}
use Rattle.elab_step_blocks.specs.Ready.{ArePlaced}
use Rattle.elab_step_blocks.specs.Cases.{each_labels}
use Rattle.elab_step_blocks.proofs.Choosing.{item_placed, placed_formed, matching_next}
use Rattle.elab_step_blocks.proofs.items.item_tests.Goals as goal

pub compared_at-requires-clause-labels : goal.compared_at-requires-clause-labels
compared_at-requires-clause-labels c = placed_formed (declared c.args.leaves.now) _ _ (each_labels c.args.case.items.now) c.requires.placed.1

pub item_node-requires-clause-labels : goal.item_node-requires-clause-labels
item_node-requires-clause-labels c =
    let v = declared c.args.leaves.now in
    let xs = each_labels c.args.case.items.now in
    let lt : c.loop-item.item-index < length c.args.case.items.now = omega (arith, c.loop-item-test.true, c.loop-item.auto.item-index-end) in
    item_placed v c.in_ok-place.place.0 c.in_ok-place.place.1 c.args.case.items.now c.loop-item.item-index c.item-item.result _
    (subst (λ n. ArePlaced v xs n c.in_ok-place.place.1) (sym c.in_ok-place.ensures.width) (subst (λ s. ArePlaced v xs (case_width v c.args.case.subject.now xs) s) (sym c.in_ok-place.ensures.sign) c.requires.placed.1))
    lt c.item-item.is

pub returns-in_err-test-clause-keeps : goal.returns-in_err-test-clause-keeps
returns-in_err-test-clause-keeps c = keeps_then c.args.dag.now c.loop-item.dag c.item_node.new.dag c.loop-item.invariant.keeps c.in_err-test.ensures.keeps

pub returns-in_err-push-clause-keeps : goal.returns-in_err-push-clause-keeps
returns-in_err-push-clause-keeps c = keeps_then c.args.dag.now c.loop-item.dag c.item_node.new.dag c.loop-item.invariant.keeps c.in_ok-test.ensures.keeps

pub loop-item-preserved : goal.loop-item-preserved
loop-item-preserved c =
    let lt : c.loop-item.item-index < length c.args.case.items.now = omega (arith, c.loop-item-test.true, c.loop-item.auto.item-index-end) in
    matching_next c.args.case.kind c.args.leaves.now c.args.case.subject.now c.in_ok-place.place.0 c.in_ok-place.place.1 c.args.dag.now c.loop-item.dag c.item_node.new.dag c.in_ok-node.node c.loop-item.item-index c.in_ok-test.test
    c.args.case.items.now c.loop-item.tests.items c.push.new.self.items c.item-item.result _ c.requires.ready c.loop-item.invariant c.in_ok-test.ensures.keeps lt c.item-item.is c.in_ok-test.ensures.makes c.in_ok-push.ensures.items
