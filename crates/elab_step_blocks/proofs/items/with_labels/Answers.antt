use Rattle.std.proofs.Common.{◌<◌, length, arith}
use Rattle.elab_step_expr.specs.Leaves.{declared}
use Rattle.elab_step_blocks.proofs.Labelling.{formed_at}
use Rattle.elab_step_blocks.proofs.items.with_labels.Goals as goal

pub shape-requires : goal.shape-requires
shape-requires c =
    let lt : c.loop-label.label-index < length c.args.labels.now = omega (arith, c.loop-label-test.true, c.loop-label.auto.label-index-end) in
    formed_at (declared c.args.leaves.now) c.args.labels.now c.loop-label.label-index c.label-item.result _ c.requires lt c.label-item.is
