use Rattle.elab_step_expr.proofs.Calls.{holds_has}
use Rattle.elab_step_expr.proofs.Kept.{keeps_then, ready_kept}
use Rattle.elab_step_expr.proofs.node.holds_node.Goals as goal

pub returns-clause-node : goal.returns-clause-node
returns-clause-node c =
    holds_has c.args.leaves.now c.args.dag.now c.own_node.new.dag c.truth.new.dag c.args.expr.now c.in_ok-own.own.wire c.in_ok-own.own.signed c.in_ok-number.number c.requires.ready c.in_ok-own.ensures.keeps c.in_ok-own.ensures.node c.in_ok-number.ensures.makes

pub returns-in_err-number-clause-keeps : goal.returns-in_err-number-clause-keeps
returns-in_err-number-clause-keeps c = keeps_then c.args.dag.now c.own_node.new.dag c.truth.new.dag c.in_ok-own.ensures.keeps c.truth.ensures.keeps

pub returns-in_err-number-clause-ready : goal.returns-in_err-number-clause-ready
returns-in_err-number-clause-ready c = ready_kept c.args.leaves.now c.own_node.new.dag c.truth.new.dag c.truth.ensures.keeps c.in_ok-own.ensures.ready

pub returns-clause-keeps : goal.returns-clause-keeps
returns-clause-keeps c = keeps_then c.args.dag.now c.own_node.new.dag c.truth.new.dag c.in_ok-own.ensures.keeps c.in_ok-number.ensures.keeps

pub returns-clause-ready : goal.returns-clause-ready
returns-clause-ready c = ready_kept c.args.leaves.now c.own_node.new.dag c.truth.new.dag c.in_ok-number.ensures.keeps c.in_ok-own.ensures.ready
