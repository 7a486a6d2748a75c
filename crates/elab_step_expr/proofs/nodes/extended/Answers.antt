use Rattle.std.proofs.Common.{sym, subst}
use Rattle.vlog_tree.specs.Value.{extend}
use Rattle.elab_step_expr.specs.Nodes.{Makes, number_at}
use Rattle.elab_step_expr.proofs.Making.{made_sext}
use Rattle.elab_step_expr.proofs.nodes.extended.Goals as goal

pub returns-then-signed-clause-makes : goal.returns-then-signed-clause-makes
returns-then-signed-clause-makes c =
    let m = made_sext c.args.dag.now c.put.new.dag c.in_ok-number.number c.in_ok-number.ensures.fit c.args.a c.args.length c.requires.node c.requires.wider c.requires.most c.in_ok-number.ensures.adds in
    subst (λ s. Makes c.put.new.dag c.in_ok-number.number c.args.length (λ e. extend s c.args.a.width c.args.length (number_at e c.args.dag.now c.args.a.node))) (sym c.if-signed.true) m
