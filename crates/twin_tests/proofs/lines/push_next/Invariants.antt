use Rattle.std.proofs.Common.{◌≡◌, ◌++◌, map, take}
use Rattle.twin_tests.specs.Ordering.{edge_line, line_of}
use Rattle.twin_tests.proofs.lines.push_next.Given as goal

-- the lines so far
abbrev pub invariant-loop-q : goal.invariant-loop-q
invariant-loop-q l = map line_of l.lines.items ≡ map line_of l.fn.lines.items ++ map (edge_line l.kind l.p) (take l.q-index l.next)
