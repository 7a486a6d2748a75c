use Rattle.std.proofs.Common.{◌≡◌, ◌++◌, map}
use Rattle.std.specs.List.{flat_map}
use Rattle.set_tree.specs.Parts.{property_at}
use Rattle.set_tree.specs.Report.{numbers_from}
use Rattle.twin_tests.specs.Ordering.{edge_line, line_of}
use Rattle.twin_tests.proofs.lines.push_edges.Given as goal

-- the lines so far
abbrev pub invariant-loop-p : goal.invariant-loop-p
invariant-loop-p l = map line_of l.lines.items ≡ map line_of l.fn.lines.items ++ flat_map (λ p. map (edge_line l.kind p) (property_at l.set p).next) (numbers_from 0 l.p)
