use Rattle.twin_tests.proofs.Sharing.{LinesLoop}
use Rattle.twin_tests.proofs.twins.Twins.add_lines.Given as goal

-- the nodes that were there are kept, and the parts that were made have theirs
abbrev pub invariant-loop-line : goal.invariant-loop-line
invariant-loop-line l = LinesLoop l.self.set.now l.fn.nodes.dag l.nodes.dag l.nodes.made.items
