use Rattle.std.proofs.Common.{◌<◌, length, refl, arith}
use Rattle.elab_step_blocks.proofs.Saving.{within_get}
use Rattle.elab_step_blocks.proofs.branches.saved_again.Goals as goal

pub saved_one-requires : goal.saved_one-requires
saved_one-requires c =
    let lt : c.loop-one.one-index < length c.args.others.now = omega (arith, c.loop-one-test.true, c.loop-one.auto.one-index-end) in
    within_get c.args.leaves.now c.args.others.now c.loop-one.one-index _ _ c.requires lt refl
