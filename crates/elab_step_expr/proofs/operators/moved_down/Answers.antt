use Rattle.std.proofs.Common.{sym, subst, ap, min}
use Rattle.vlog_tree.specs.declared.expr.Binary.TheVariants as b
use Rattle.vlog_tree_values.specs.Operators.{shift_of}
use Rattle.word_core.specs.Words.{Bits}
use Rattle.vlog_tree_values.proofs.Signs.{sar_is}
use Rattle.elab_step_expr.specs.Nodes.{Makes, number_at, wire_word}
use Rattle.elab_step_expr.proofs.Kept.{made_same, wire_fits}
use Rattle.elab_step_expr.proofs.operators.moved_down.Goals as goal

pub returns-then-signed-clause-makes : goal.returns-then-signed-clause-makes
returns-then-signed-clause-makes c =
    let d = c.args.dag.now in
    let f = c.in_ok-number.ensures.fit in
    subst (λ s. Makes c.two.new.dag c.in_ok-number.number c.args.a.width (λ e. shift_of b.ArithmeticShr c.args.a.width s (number_at e d c.args.a.node) (min (number_at e d c.args.b.node) c.args.a.width))) (sym c.if-signed.true)
    (made_same c.two.new.dag c.in_ok-number.number c.args.a.width _ _ c.in_ok-number.ensures.makes
    (λ e. ap (λ (w : Bits). w.value) (sar_is (wire_word e d c.args.a) (wire_word e d c.args.b) (wire_fits e d c.args.a f c.requires.left))))
