use Rattle.std.proofs.Common.{◌≡◌, ◌^◌, ◌/◌, ◌%◌, ◌-◌, ◌+◌, ◌*◌, ◌≤◌, min, ap, ◌∙◌, arith}
use Rattle.elab_step_expr.specs.Nodes.{number_at}
use Rattle.elab_step_expr.proofs.Kept.{made_same, made_number, number_fits, keeps_then}
use Rattle.elab_step_expr.proofs.Moved.{up_kept}
use Rattle.elab_step_expr.proofs.bits.raised.Goals as goal

pub returns-clause-makes : goal.returns-clause-makes
returns-clause-makes c =
    let d = c.args.dag.now in
    let a = c.args.a in
    let le : c.args.up ≤ c.args.width = omega (arith, c.requires.within) in
    let kept : c.min-kept.result ≡ min a.width (c.args.width - c.args.up) = omega (arith, c.min-kept.ensures, c.length_of-length.ensures.same) in
    made_same c.extended.new.dag c.in_ok-number.number c.args.width _ _ c.in_ok-number.ensures.makes
    (λ e. made_number e c.above.new.dag c.in_ok-moved.moved _ _ c.in_ok-moved.ensures.makes
    ∙ ap (λ n. n * 2 ^ c.args.up + 0) (made_number e c.slice.new.dag c.in_ok-part.part _ _ c.in_ok-part.ensures.makes)
    ∙ ap (λ m. number_at e d a.node / 2 ^ 0 % 2 ^ m * 2 ^ c.args.up + 0) kept
    ∙ up_kept (number_at e d a.node) a.width c.args.up c.args.width (number_fits e d a.node a.width c.length_of-length.ensures.fit c.requires.node) le)

pub returns-in_err-moved-clause-keeps : goal.returns-in_err-moved-clause-keeps
returns-in_err-moved-clause-keeps c = keeps_then c.args.dag.now c.slice.new.dag c.above.new.dag c.in_ok-part.ensures.keeps c.above.ensures.keeps

pub returns-in_err-number-clause-keeps : goal.returns-in_err-number-clause-keeps
returns-in_err-number-clause-keeps c = keeps_then c.args.dag.now c.above.new.dag c.extended.new.dag (keeps_then c.args.dag.now c.slice.new.dag c.above.new.dag c.in_ok-part.ensures.keeps c.in_ok-moved.ensures.keeps) c.extended.ensures.keeps

pub returns-clause-keeps : goal.returns-clause-keeps
returns-clause-keeps c = keeps_then c.args.dag.now c.above.new.dag c.extended.new.dag (keeps_then c.args.dag.now c.slice.new.dag c.above.new.dag c.in_ok-part.ensures.keeps c.in_ok-moved.ensures.keeps) c.in_ok-number.ensures.keeps
