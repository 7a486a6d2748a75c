use Rattle.std.proofs.Common.{◌∙◌}
use Rattle.meet_lines.proofs.Obtaining.{are_segments}
use Rattle.meet_lines.proofs.segments.segments_of.Goals as goal

pub returns-clause-segments : goal.returns-clause-segments
returns-clause-segments c =
    let b = c.args.bound.now in
    are_segments b.design b.set c.set-set.result.now c.segment_nodes.new.dag c.segment_nodes-2.new.dag _ c.largest_window-count.result (c.set-set.ensures.value ∙ c.set.ensures) c.largest_window-count.ensures.largest c.in_ok-plain.ensures.grows c.in_ok-after_reset.ensures.rows c.in_ok-plain.ensures.rows
