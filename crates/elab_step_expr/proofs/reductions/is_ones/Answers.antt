use Rattle.std.proofs.Common.{ap, ◌∙◌}
use Rattle.std.specs.Prelude.{nat_eq}
use Rattle.vlog_tree.specs.Value.{bit}
use Rattle.elab_step_expr.specs.Nodes.{number_at}
use Rattle.elab_step_expr.proofs.Kept.{made_same, made_number, number_fits, keeps_then}
use Rattle.elab_step_expr.proofs.Parity.{ones_test}
use Rattle.elab_step_expr.proofs.reductions.is_ones.Goals as goal

pub returns-clause-makes : goal.returns-clause-makes
returns-clause-makes c =
    let d = c.args.dag.now in
    let a = c.args.a in
    made_same c.is_zero.new.dag c.in_ok-number.number 1 _ _ c.in_ok-number.ensures.makes
    (λ e. ap (λ n. bit (nat_eq n 0)) (made_number e c.turned.new.dag c.in_ok-zeros.zeros a.width _ c.in_ok-zeros.ensures.makes)
    ∙ ap bit (ones_test a.width (number_at e d a.node) (number_fits e d a.node a.width c.length_of-width.ensures.fit c.requires)))

pub returns-in_err-number-clause-keeps : goal.returns-in_err-number-clause-keeps
returns-in_err-number-clause-keeps c = keeps_then c.args.dag.now c.turned.new.dag c.is_zero.new.dag c.in_ok-zeros.ensures.keeps c.is_zero.ensures.keeps

pub returns-clause-keeps : goal.returns-clause-keeps
returns-clause-keeps c = keeps_then c.args.dag.now c.turned.new.dag c.is_zero.new.dag c.in_ok-zeros.ensures.keeps c.in_ok-number.ensures.keeps
