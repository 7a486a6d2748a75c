use Rattle.elab_step_flow.proofs.Listing.{among_at}
use Rattle.elab_step_flow.proofs.Edging.{blocks_next, blocks_end}
use Rattle.elab_step_flow.proofs.edges.add_blocks_edges.Goals as goal

pub add_own_edges-requires-clause-body : goal.add_own_edges-requires-clause-body
add_own_edges-requires-clause-body c =
    c.requires.blocks c.block-item.result (among_at c.args.blocks.now c.loop-block.block-index c.block-item.result c.loop-block-test.true c.block-item.is)

pub loop-block-preserved : goal.loop-block-preserved
loop-block-preserved c =
    blocks_next c.args.scope.now c.args.blocks.now c.loop-block.block-index c.block-item.result c.args.all.now.items c.loop-block.all.items c.add_own_edges.new.all.items c.loop-block-test.true c.block-item.is c.loop-block.invariant
    c.in_ok-add_own_edges.ensures

pub returns : goal.returns
returns c = blocks_end c.args.scope.now c.args.blocks.now c.loop-block.block-index c.args.all.now.items c.loop-block.all.items c.loop-block-test.false c.loop-block.invariant
