use Rattle.std.proofs.Common.{◌≡◌, ◌++◌, take}
use Rattle.path_machine.specs.Graphs.{operations_graph}
use Rattle.path_machine.proofs.graph.add_operations.Given as goal

-- the operations so far
abbrev pub invariant-loop-operation : goal.invariant-loop-operation
invariant-loop-operation l = l.out.items ≡ l.fn.out.items ++ operations_graph l.set (take l.operation-index l.operations)
