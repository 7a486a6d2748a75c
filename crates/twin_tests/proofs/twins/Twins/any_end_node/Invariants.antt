use Rattle.std.proofs.Common.{◌-◌}
use Rattle.twin_tests_laws.specs.Laws.{property_of}
use Rattle.twin_tests_laws.specs.Tests.{any_from}
use Rattle.set_tree.specs.Parts.{property_at}
use Rattle.twin_tests.specs.Framing.{end_test}
use Rattle.twin_tests.specs.Ordering.{line_of}
use Rattle.twin_tests.proofs.Sharing.{JoinedOf}
use Rattle.twin_tests.proofs.twins.Twins.any_end_node.Given as goal

-- what the line says of one of the ends so far
abbrev pub invariant-loop-n : goal.invariant-loop-n
invariant-loop-n l = let low = (property_at l.self.set.now (property_of (line_of l.line))).length.low in JoinedOf l.self.set.now l.fn.nodes.dag l.nodes.dag l.nodes.made.items l.any (λ e. any_from low (l.n - low) (λ n. end_test l.self.set.now l.line n e))
