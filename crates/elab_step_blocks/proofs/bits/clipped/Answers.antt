use Rattle.std.proofs.Common.{◌≡◌, ◌-◌, min, pos, ◌∙◌, arith}
use Rattle.vlog_tree_runs.specs.Places.{write_bits}
use Rattle.elab_step_expr.specs.Nodes.{number_at}
use Rattle.elab_step_expr.proofs.Kept.{made_same, made_number, number_kept, keeps_then}
use Rattle.elab_step_blocks.proofs.Writing.{clipped_is}
use Rattle.elab_step_blocks.proofs.bits.clipped.Goals as goal

pub returns-clause-makes : goal.returns-clause-makes
returns-clause-makes c =
    let d = c.args.dag.now in
    let o = c.args.old in
    let b = c.args.bits in
    let mid = c.slice.new.dag in
    let m = c.min-kept.result in
    let kept : m ≡ min b.width (o.width - c.args.lo) = omega (arith, c.min-kept.ensures) in
    made_same c.overlaid.new.dag c.in_ok-number.number o.width _ _ c.in_ok-number.ensures.makes
    (λ e. (λ r. write_bits o.width (pos c.args.lo) m (made_number e mid c.in_ok-part.part _ _ c.in_ok-part.ensures.makes r) (number_kept e d mid o.node o.width c.in_ok-part.ensures.keeps c.requires.old r))
    ∙ clipped_is c.bits_are_written.ensures.inside c.bits_are_written.ensures.others o.width c.args.lo b.width m (number_at e d b.node) (number_at e d o.node) kept c.requires.within)

pub returns-in_err-number-clause-keeps : goal.returns-in_err-number-clause-keeps
returns-in_err-number-clause-keeps c = keeps_then c.args.dag.now c.slice.new.dag c.overlaid.new.dag c.in_ok-part.ensures.keeps c.overlaid.ensures.keeps

pub returns-clause-keeps : goal.returns-clause-keeps
returns-clause-keeps c = keeps_then c.args.dag.now c.slice.new.dag c.overlaid.new.dag c.in_ok-part.ensures.keeps c.in_ok-number.ensures.keeps
