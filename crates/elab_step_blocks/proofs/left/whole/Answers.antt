use Rattle.std.proofs.Common.{refl}
use Rattle.elab_step_blocks.proofs.Sides.{leaf_read, wide_leaf, whole_part}
use Rattle.elab_step_blocks.proofs.left.whole.Goals as goal

pub returns : goal.returns
returns c ns =
    let es = c.args.leaves.now in
    let i = c.leaf_number-leaf.result in
    let l = c.leaf.result.now in
    let at = c.leaf_number-leaf.ensures in
    whole_part es c.args.name.now i (leaf_read es c.args.name.now i l c.leaf.ensures at) ns _ (wide_leaf es i l c.declared-wide.ensures.wide at.within c.leaf.ensures) refl
