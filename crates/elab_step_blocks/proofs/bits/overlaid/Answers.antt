use Rattle.std.proofs.Common.{◌+◌, ◌*◌, ◌/◌, ◌^◌, ◌∙◌}
use Rattle.elab_step_expr.specs.Nodes.{number_at}
use Rattle.elab_step_expr.proofs.Kept.{made_same, made_number, number_fits, number_kept, keeps_then}
use Rattle.elab_step_blocks.proofs.Writing.{overlaid_is}
use Rattle.elab_step_blocks.proofs.bits.overlaid.Goals as goal

pub returns-clause-makes : goal.returns-clause-makes
returns-clause-makes c =
    let d = c.args.dag.now in
    let o = c.args.old in
    let b = c.args.bits in
    let mid = c.above_low.new.dag in
    let w = b.width + c.args.lo in
    made_same c.below_high.new.dag c.in_ok-number.number o.width _ _ c.in_ok-number.ensures.makes
    (λ e. (λ r. number_kept e d mid o.node o.width c.in_ok-low.ensures.keeps c.requires.old r / 2 ^ w * 2 ^ w + made_number e mid c.in_ok-low.low _ _ c.in_ok-low.ensures.makes r)
    ∙ overlaid_is c.bits_are_written.ensures.piece o.width c.args.lo b.width (number_at e d b.node) (number_at e d o.node) (number_fits e d b.node b.width c.length_of.ensures.fit c.requires.bits) c.requires.within)

pub returns-in_err-number-clause-keeps : goal.returns-in_err-number-clause-keeps
returns-in_err-number-clause-keeps c = keeps_then c.args.dag.now c.above_low.new.dag c.below_high.new.dag c.in_ok-low.ensures.keeps c.below_high.ensures.keeps

pub returns-clause-keeps : goal.returns-clause-keeps
returns-clause-keeps c = keeps_then c.args.dag.now c.above_low.new.dag c.below_high.new.dag c.in_ok-low.ensures.keeps c.in_ok-number.ensures.keeps
