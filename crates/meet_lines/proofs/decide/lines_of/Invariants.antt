use Rattle.std.specs.Vec.Iter.{into_iter_items}
use Rattle.meet_lines.proofs.Telling.{TellLoop}
use Rattle.meet_lines.proofs.decide.lines_of.Given as goal

-- the lines so far
abbrev pub invariant-loop-one : goal.invariant-loop-one
invariant-loop-one l = TellLoop l.bound l.fn.decided.items l.lines.items (into_iter_items l.one-iterator)
