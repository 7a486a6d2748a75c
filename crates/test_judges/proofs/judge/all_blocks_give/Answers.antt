use Rattle.std.proofs.Common.{◌<◌, length, get_or, ap, ◌∙◌, arith}
use Rattle.elab_step_nets.proofs.Boards.{item_among}
use Rattle.test_judges.proofs.judge.all_blocks_give.Goals as goal

pub block_gives-requires-clause-body : goal.block_gives-requires-clause-body
block_gives-requires-clause-body c =
    let xs = c.args.flat.now.blocks in
    let x = c.block-item.result in
    let i = c.loop-block.block-index in
    let l = ap length c.as_slice-block-items.ensures in
    let lt : i < length xs = omega (arith, l) in
    c.requires.can.blocks x (item_among xs i x x lt (c.block-item.is ∙ ap (λ z. get_or z i x) c.as_slice-block-items.ensures))
