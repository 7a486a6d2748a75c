use Rattle.std.proofs.Common.{◌<◌, length, max, ◌&&◌, sym, subst, ap, ◌∙◌, arith}
use Rattle.vlog_tree_values.specs.Shapes.{each_formed}
use Rattle.vlog_tree_runs.specs.Blocks.{widest, all_signed, case_width, case_sign}
use Rattle.elab_step_expr.specs.Leaves.{declared}
use Rattle.elab_step_blocks.specs.Cases.{each_labels}
use Rattle.elab_step_blocks.proofs.Choosing.{item_formed, longest_item}
use Rattle.elab_step_blocks.proofs.items.compared_at.Goals as goal

pub with_labels-requires : goal.with_labels-requires
with_labels-requires c =
    let lt : c.loop-item.item-index < length c.args.case.items.now = omega (arith, c.loop-item-test.true, c.loop-item.auto.item-index-end) in
    subst (λ z. each_formed (declared c.args.leaves.now) z) (sym c.exprs_in.ensures) (item_formed (declared c.args.leaves.now) c.args.case.items.now c.loop-item.item-index c.item-item.result _ c.requires.labels lt c.item-item.is)

pub loop-item-preserved : goal.loop-item-preserved
loop-item-preserved c =
    let v = declared c.args.leaves.now in
    let lt : c.loop-item.item-index < length c.args.case.items.now = omega (arith, c.loop-item-test.true, c.loop-item.auto.item-index-end) in
    longest_item v c.args.case.items.now c.loop-item.item-index c.item-item.result _ c.loop-item.longest.0 c.in_ok-more.more.0 (case_width v c.args.case.subject.now (each_labels c.args.case.items.now))
    c.loop-item.longest.1 c.in_ok-more.more.1 (case_sign v c.args.case.subject.now (each_labels c.args.case.items.now)) lt c.item-item.is
    (c.in_ok-more.ensures.width ∙ ap (λ z. max c.loop-item.longest.0 (widest v z)) c.exprs_in.ensures)
    (c.in_ok-more.ensures.sign ∙ ap (λ z. c.loop-item.longest.1 && all_signed v z) c.exprs_in.ensures)
    c.loop-item.invariant
