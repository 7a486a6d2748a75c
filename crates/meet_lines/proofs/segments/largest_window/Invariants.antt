use Rattle.meet_lines.proofs.Largest.{IsLargestOf}
use Rattle.meet_lines.proofs.segments.largest_window.Given as goal

-- the largest window so far
abbrev pub invariant-loop-property : goal.invariant-loop-property
invariant-loop-property l = IsLargestOf l.set l.property-items l.property-index l.largest
