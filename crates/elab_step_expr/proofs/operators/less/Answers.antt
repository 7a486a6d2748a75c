use Rattle.std.proofs.Common.{sym, subst, ap}
use Rattle.std.specs.Prelude.{int_lt}
use Rattle.vlog_tree.specs.Value.{bit, integer}
use Rattle.vlog_tree_values.proofs.Signs.{signed_less}
use Rattle.elab_step_expr.specs.Nodes.{Makes, number_at, wire_word}
use Rattle.elab_step_expr.proofs.Kept.{made_same, wire_fits}
use Rattle.elab_step_expr.proofs.operators.less.Goals as goal

pub returns-then-signed-clause-makes : goal.returns-then-signed-clause-makes
returns-then-signed-clause-makes c =
    let d = c.args.dag.now in
    let f = c.in_ok-number.ensures.fit in
    subst (λ s. Makes c.two.new.dag c.in_ok-number.number 1 (λ e. bit (int_lt (integer s c.args.a.width (number_at e d c.args.a.node)) (integer s c.args.b.width (number_at e d c.args.b.node))))) (sym c.if-signed.true)
    (made_same c.two.new.dag c.in_ok-number.number 1 _ _ c.in_ok-number.ensures.makes
    (λ e. ap bit (signed_less (wire_word e d c.args.a) (wire_word e d c.args.b) c.requires.same (wire_fits e d c.args.a f c.requires.left) (wire_fits e d c.args.b f c.requires.right))))
