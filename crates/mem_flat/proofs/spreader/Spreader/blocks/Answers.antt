use Rattle.mem_faults.proofs.Keeping.{among_at}
use Rattle.mem_flat.proofs.spreader.Spreader.blocks.Goals as goal

pub block_of-requires : goal.block_of-requires
block_of-requires c = c.requires c.block-item.result (among_at c.args.blocks.now c.loop-block.block-index c.block-item.result _ c.loop-block-test.true c.block-item.is)
