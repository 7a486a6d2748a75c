use Rattle.elab_step_flow.specs.Asked.{OfSignal, BlockMisses}
use Rattle.elab_step_flow.proofs.Listing.{among_at}
use Rattle.elab_step_flow.proofs.Finding.{some_is, none_is, block_found, block_passed, block_none}
use Rattle.elab_step_flow.proofs.latch.missed_of.Goals as goal

pub missed_by-requires-clause-body : goal.missed_by-requires-clause-body
missed_by-requires-clause-body c = c.requires.blocks c.block-item.result (among_at c.args.blocks.now c.loop-block.block-index c.block-item.result c.loop-block-test.true c.block-item.is)

pub returns-in-Some-clause-some : goal.returns-in-Some-clause-some
returns-in-Some-clause-some c =
    let gs = c.args.scope.now in
    let k = c.block-item.result in
    block_found gs (BlockMisses gs) c.args.blocks.now c.loop-block.block-index c.in-Some.place k c.loop-block-test.true c.block-item.is
    (some_is _ c.in-Some.place (λ i. OfSignal gs i (BlockMisses gs k)) c.in-Some.is c.in_ok-place.ensures.some)

pub loop-block-preserved : goal.loop-block-preserved
loop-block-preserved c = λ x h.
    let gs = c.args.scope.now in
    block_passed gs (BlockMisses gs) c.args.blocks.now c.loop-block.block-index c.block-item.result c.loop-block-test.true c.block-item.is (none_is _ _ c.in_default.is c.in_ok-place.ensures.none) x (c.loop-block.invariant x h)

pub returns-clause-none : goal.returns-clause-none
returns-clause-none c = λ x h.
    let gs = c.args.scope.now in
    block_none gs (BlockMisses gs) c.args.blocks.now c.loop-block.block-index c.loop-block-test.false x (c.loop-block.invariant x h)
