use Rattle.std.proofs.Common.{◌≡◌, ◌-◌, ◌++◌, map}
use Rattle.std.specs.List.{filter}
use Rattle.set_tree.specs.Report.{has_until, numbers_from}
use Rattle.twin_tests.specs.Ordering.{line_of, property_line}
use Rattle.twin_tests.proofs.lines.push_untils.Given as goal

-- the lines so far
abbrev pub invariant-loop-p : goal.invariant-loop-p
invariant-loop-p l = map line_of l.lines.items ≡ map line_of l.fn.lines.items ++ map (property_line l.kind) (filter (has_until l.set) (numbers_from 1 (l.p - 1)))
