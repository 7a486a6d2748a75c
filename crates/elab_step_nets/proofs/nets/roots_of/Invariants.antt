use Rattle.std.proofs.Common.{List, take}
use Rattle.vlog_tree.specs.declared.stmt.Stmt.{Stmt}
use Rattle.word_dag.specs.declared.node.Node.{Node}
use Rattle.elab_step_expr.specs.Leaves.{AreReady}
use Rattle.elab_step_nets.specs.Outcomes.{IsOutcome, AreRoots}
use Rattle.elab_step_nets.proofs.nets.roots_of.Given as goal

abbrev pub invariant-loop-place : goal.invariant-loop-place
invariant-loop-place l = (ns : List Node) (body : Stmt) → AreReady l.first ns → IsOutcome l.first ns body l.outcome → AreRoots l.first ns body (take l.place-index l.places) l.roots.items
