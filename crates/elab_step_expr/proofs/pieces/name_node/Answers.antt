use Rattle.std.proofs.Common.{ap, sym, arith}
use Rattle.vlog_tree.specs.declared.expr.Constant.{Constant}
use Rattle.vlog_tree.specs.Value.{extend}
use Rattle.elab_step_expr.specs.Nodes.{number_at}
use Rattle.elab_step_expr.proofs.Kept.{made_same}
use Rattle.elab_step_expr.proofs.Read.{leaf_ready, named_leaf}
use Rattle.elab_step_expr.proofs.pieces.name_node.Goals as goal

pub extended-requires-clause-node : goal.extended-requires-clause-node
extended-requires-clause-node c = (leaf_ready c.args.leaves.now c.args.dag.now c.args.name.now.text c.args.name.now.offset c.leaf_of-leaf.result.now c.requires.ready c.leaf_of-leaf.ensures).1

pub extended-requires-clause-wider : goal.extended-requires-clause-wider
extended-requires-clause-wider c = omega (arith, ap (λ (k : Constant). k.width) (named_leaf (λ m. 0) c.args.leaves.now c.args.name.now c.leaf_of-leaf.result.now c.leaf_of-leaf.ensures), c.requires.long)

pub returns-clause-makes : goal.returns-clause-makes
returns-clause-makes c =
    let d = c.args.dag.now in
    made_same c.extended.new.dag c.in_ok-number.number c.args.here.0 _ _ c.in_ok-number.ensures.makes
    (λ e. ap (λ (k : Constant). extend c.args.here.1 k.width c.args.here.0 k.value) (sym (named_leaf (λ m. number_at e d m.node) c.args.leaves.now c.args.name.now c.leaf_of-leaf.result.now c.leaf_of-leaf.ensures)))
