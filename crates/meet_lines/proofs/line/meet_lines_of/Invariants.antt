use Rattle.std.proofs.Common.{◌≡◌, ◌∷◌, map}
use Rattle.set_tree.specs.Report.{numbers_from}
use Rattle.meet_lines.specs.declared.line.MeetLine.TheVariants.{Reset, Operation}
use Rattle.meet_lines.proofs.line.meet_lines_of.Given as goal

-- the lines so far
abbrev pub invariant-loop-at : goal.invariant-loop-at
invariant-loop-at l = l.lines.items ≡ Reset ∷ map Operation (numbers_from 1 l.at)
