-- Vectors whose bits are selected.
use Rattle.std.specs.Prelude.{◌≡◌, ◌^◌, ◌%◌, List}
use Rattle.vlog_tree.specs.declared.expr.Constant.{Constant}
use Rattle.vlog_tree.specs.declared.valuation.Entry.{Entry}
use Rattle.word_dag.specs.declared.node.Node.{Node}
use Rattle.word_dag.specs.Nodes.{Naming}
use Rattle.elab_step_expr.specs.declared.leaves.Leaf.{Leaf}
use Rattle.elab_step_expr.specs.declared.operands.Vector.{Vector}
use Rattle.elab_step_expr.specs.Leaves.{valued}
use Rattle.elab_step_expr.specs.Nodes.{IsWire, number_at, words}

-- the node has the number of what a name or a parameter stands for, and its lowest bit is the same one
pub record IsVector (ls : List Leaf) (ns : List Node) (meant : List Entry → Constant) (v : Vector) : Type 0 where
  pub node : IsWire ns v.wire
  pub low : (e : Naming) → (meant (valued ls (words e ns))).low ≡ v.low
  pub number : (e : Naming) → number_at e ns v.wire.node ≡ (meant (valued ls (words e ns))).value % 2 ^ (meant (valued ls (words e ns))).width
