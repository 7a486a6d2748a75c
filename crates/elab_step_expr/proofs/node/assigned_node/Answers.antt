use Rattle.elab_step_expr.proofs.Calls.{assigned_taken, assigned_has}
use Rattle.elab_step_expr.proofs.Kept.{keeps_then, ready_kept}
use Rattle.elab_step_expr.proofs.node.assigned_node.Goals as goal

pub node_at-requires-clause-taken : goal.node_at-requires-clause-taken
node_at-requires-clause-taken c = assigned_taken c.args.leaves.now c.args.expr.now c.in_ok-own.own.0 c.args.width c.max-length.result c.in_ok-own.own.1 c.in_ok-own.ensures c.max-length.ensures c.requires.most c.requires.constant c.requires.defined

pub returns-clause-node : goal.returns-clause-node
returns-clause-node c =
    assigned_has c.args.leaves.now c.args.dag.now c.node_at.new.dag c.slice.new.dag c.args.expr.now c.in_ok-own.own.0 c.args.width c.max-length.result c.in_ok-own.own.1 c.in_ok-node.node c.in_ok-number.number c.requires.ready c.in_ok-node.ensures.keeps c.requires.constant c.in_ok-own.ensures c.max-length.ensures
    c.in_ok-node.ensures.node c.in_ok-number.ensures.makes

pub returns-in_err-number-clause-keeps : goal.returns-in_err-number-clause-keeps
returns-in_err-number-clause-keeps c = keeps_then c.args.dag.now c.node_at.new.dag c.slice.new.dag c.in_ok-node.ensures.keeps c.slice.ensures.keeps

pub returns-in_err-number-clause-ready : goal.returns-in_err-number-clause-ready
returns-in_err-number-clause-ready c = ready_kept c.args.leaves.now c.node_at.new.dag c.slice.new.dag c.slice.ensures.keeps c.in_ok-node.ensures.ready

pub returns-clause-keeps : goal.returns-clause-keeps
returns-clause-keeps c = keeps_then c.args.dag.now c.node_at.new.dag c.slice.new.dag c.in_ok-node.ensures.keeps c.in_ok-number.ensures.keeps

pub returns-clause-ready : goal.returns-clause-ready
returns-clause-ready c = ready_kept c.args.leaves.now c.node_at.new.dag c.slice.new.dag c.in_ok-number.ensures.keeps c.in_ok-node.ensures.ready
