use Rattle.std.proofs.Common.{◌≡◌, ◌++◌, take}
use Rattle.path_machine.specs.Graphs.{edges_text}
use Rattle.path_machine.proofs.graph.add_edges.Given as goal

-- the edges so far
abbrev pub invariant-loop-at : goal.invariant-loop-at
invariant-loop-at l = l.out.items ≡ l.fn.out.items ++ edges_text l.set l.name (take l.at-index l.next)
