use Rattle.std.proofs.Common.{◌≡◌, ◌^◌, ◌/◌, ◌%◌, ◌-◌, ◌≤◌, min, ap, ◌∙◌, arith}
use Rattle.elab_step_expr.specs.Nodes.{number_at}
use Rattle.elab_step_expr.proofs.Kept.{made_same, made_number, number_fits, keeps_then}
use Rattle.elab_step_expr.proofs.Moved.{down_kept}
use Rattle.elab_step_expr.proofs.bits.lowered.Goals as goal

pub returns-clause-makes : goal.returns-clause-makes
returns-clause-makes c =
    let d = c.args.dag.now in
    let a = c.args.a in
    let le : c.args.lo ≤ a.width = omega (arith, c.requires.within) in
    let kept : c.min-kept.result ≡ min c.args.width (a.width - c.args.lo) = omega (arith, c.min-kept.ensures, c.length_of-length.ensures.same) in
    made_same c.extended.new.dag c.in_ok-number.number c.args.width _ _ c.in_ok-number.ensures.makes
    (λ e. made_number e c.slice.new.dag c.in_ok-part.part _ _ c.in_ok-part.ensures.makes
    ∙ ap (λ m. number_at e d a.node / 2 ^ c.args.lo % 2 ^ m) kept
    ∙ down_kept (number_at e d a.node) a.width c.args.lo c.args.width (number_fits e d a.node a.width c.length_of-length.ensures.fit c.requires.node) le)

pub returns-in_err-number-clause-keeps : goal.returns-in_err-number-clause-keeps
returns-in_err-number-clause-keeps c = keeps_then c.args.dag.now c.slice.new.dag c.extended.new.dag c.in_ok-part.ensures.keeps c.extended.ensures.keeps

pub returns-clause-keeps : goal.returns-clause-keeps
returns-clause-keeps c = keeps_then c.args.dag.now c.slice.new.dag c.extended.new.dag c.in_ok-part.ensures.keeps c.in_ok-number.ensures.keeps
