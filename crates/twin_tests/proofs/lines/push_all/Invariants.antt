use Rattle.std.proofs.Common.{◌≡◌, ◌++◌, map}
use Rattle.set_tree.specs.Report.{numbers_from}
use Rattle.twin_tests.specs.Ordering.{line_of, property_line}
use Rattle.twin_tests.proofs.lines.push_all.Given as goal

-- the lines so far
abbrev pub invariant-loop-p : goal.invariant-loop-p
invariant-loop-p l = map line_of l.lines.items ≡ map line_of l.fn.lines.items ++ map (property_line l.kind) (numbers_from 0 l.p)
