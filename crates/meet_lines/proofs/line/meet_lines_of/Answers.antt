use Rattle.meet_lines.proofs.Listing.{line_step}
use Rattle.meet_lines.proofs.line.meet_lines_of.Goals as goal

pub loop-at-preserved : goal.loop-at-preserved
loop-at-preserved c = line_step c.loop-at.lines.items c.push-in-loop-at.new.self.items c.loop-at.at c.loop-at.invariant c.in_ok-push-2.ensures.items
