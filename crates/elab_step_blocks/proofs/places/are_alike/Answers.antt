use Rattle.std.proofs.Common.{◌<◌, length, arith}
use Rattle.elab_step_expr.specs.Leaves.{declared}
use Rattle.elab_step_blocks.proofs.Picking.{ready_item}
use Rattle.elab_step_blocks.proofs.places.are_alike.Goals as goal

pub body-requires : goal.body-requires
body-requires c =
    let lt : c.loop-item.item-index < length c.args.items.now = omega (arith, c.loop-item-test.true, c.loop-item.auto.item-index-end) in
    ready_item (declared c.args.leaves.now) c.args.items.now c.loop-item.item-index c.item-item.result _ c.requires.items lt c.item-item.is
