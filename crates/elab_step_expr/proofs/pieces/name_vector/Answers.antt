use Rattle.std.proofs.Common.{◌%◌, ◌^◌, ap, sym, ◌∙◌}
use Rattle.std.proofs.Math.Nat.{mod-eq_of_lt}
use Rattle.vlog_tree.specs.declared.expr.Constant.{Constant}
use Rattle.elab_step_expr.specs.Nodes.{number_at}
use Rattle.elab_step_expr.proofs.Kept.{number_fits}
use Rattle.elab_step_expr.proofs.Read.{leaf_ready, named_leaf}
use Rattle.elab_step_expr.proofs.pieces.name_vector.Goals as goal

pub returns : goal.returns
returns c =
    let d = c.args.dag.now in
    let l = c.leaf_of-leaf.result.now in
    let node = (leaf_ready c.args.leaves.now d c.args.name.now.text c.args.name.now.offset l c.requires.ready c.leaf_of-leaf.ensures).1 in
    record {
      node = node;
      low = λ x. ap (λ (k : Constant). k.low) (named_leaf (λ m. number_at x d m.node) c.args.leaves.now c.args.name.now l c.leaf_of-leaf.ensures);
      number = λ x.
          sym (mod-eq_of_lt (number_fits x d l.node l.width c.nodes-fit.ensures.fit node))
          ∙ sym (ap (λ (k : Constant). k.value % 2 ^ k.width) (named_leaf (λ m. number_at x d m.node) c.args.leaves.now c.args.name.now l c.leaf_of-leaf.ensures));
    }
