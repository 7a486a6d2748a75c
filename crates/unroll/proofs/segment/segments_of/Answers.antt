use Rattle.std.proofs.Common.{◌∙◌, refl}
use Rattle.unroll.proofs.Rowing.{are_segments}
use Rattle.unroll.proofs.segment.segments_of.Goals as goal

pub returns-clause-segments : goal.returns-clause-segments
returns-clause-segments c =
    let b = c.args.bound.now in
    are_segments b.design b.set c.set-set.result.now c.segment_nodes.new.dag c.segment_nodes-2.new.dag _ c.in_ok-after_reset.after_reset.items c.in_ok-plain.plain.items c.largest_window.result c.max-count.result (c.set-set.ensures.value ∙ c.set.ensures) refl refl c.in_ok-plain.ensures.grows c.in_ok-after_reset.ensures.rows c.in_ok-plain.ensures.rows c.max-count.ensures c.largest_window.ensures.largest
