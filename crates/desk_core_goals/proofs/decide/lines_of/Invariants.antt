use Rattle.std.specs.Vec.Iter.{into_iter_items}
use Rattle.desk_core_goals.proofs.LinesTold.{TellLoop}
use Rattle.desk_core_goals.proofs.decide.lines_of.Given as goal

-- the lines so far
abbrev pub invariant-loop-one : goal.invariant-loop-one
invariant-loop-one l = TellLoop l.bound l.fn.decided.items l.lines.items (into_iter_items l.one-iterator)
