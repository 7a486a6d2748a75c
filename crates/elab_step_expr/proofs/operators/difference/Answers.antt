use Rattle.std.proofs.Common.{◌^◌, ◌<◌, sym, subst}
use Rattle.vlog_tree_values.proofs.Signs.{sub_is}
use Rattle.elab_step_expr.specs.Nodes.{number_at}
use Rattle.elab_step_expr.proofs.Kept.{made_same, number_fits}
use Rattle.elab_step_expr.proofs.operators.difference.Goals as goal

pub returns-clause-makes : goal.returns-clause-makes
returns-clause-makes c =
    let d = c.args.dag.now in
    made_same c.two.new.dag c.in_ok-number.number c.args.a.width _ _ c.in_ok-number.ensures.makes
    (λ e. sub_is c.args.a.width (number_at e d c.args.a.node) (number_at e d c.args.b.node)
    (subst (λ n. number_at e d c.args.b.node < 2 ^ n) (sym c.requires.same) (number_fits e d c.args.b.node c.args.b.width c.in_ok-number.ensures.fit c.requires.right)))
