use Rattle.std.specs.Vec.Iter.{into_iter_items}
use Rattle.desk_core_goals.proofs.LinesTold.{JoinLoop}
use Rattle.desk_core_goals.proofs.goals.joined.Given as goal

-- the goals so far
abbrev pub invariant-loop-named : goal.invariant-loop-named
invariant-loop-named l = JoinLoop l.bound l.lines l.goals.items (into_iter_items l.named-iterator)
