use Rattle.std.proofs.Common.{◌-◌, pos, ◌∙◌}
use Rattle.vlog_tree_runs.specs.Places.{write_bits}
use Rattle.elab_step_expr.specs.Nodes.{number_at}
use Rattle.elab_step_expr.proofs.Kept.{made_same, made_number, number_fits, number_kept, keeps_then}
use Rattle.elab_step_blocks.proofs.Writing.{from_below_is}
use Rattle.elab_step_blocks.proofs.bits.from_below.Goals as goal

pub returns-clause-makes : goal.returns-clause-makes
returns-clause-makes c =
    let d = c.args.dag.now in
    let o = c.args.old in
    let b = c.args.bits in
    let mid = c.slice.new.dag in
    made_same c.clipped.new.dag c.in_ok-number.number o.width _ _ c.in_ok-number.ensures.makes
    (λ e. (λ r. write_bits o.width (pos 0) (b.width - c.args.skipped) (made_number e mid c.in_ok-part.part _ _ c.in_ok-part.ensures.makes r) (number_kept e d mid o.node o.width c.in_ok-part.ensures.keeps c.requires.old r))
    ∙ from_below_is c.bits_are_written.ensures.below o.width c.args.skipped b.width (number_at e d b.node) (number_at e d o.node) c.requires.some c.requires.within (number_fits e d b.node b.width c.length_of.ensures.fit c.requires.bits))

pub returns-in_err-number-clause-keeps : goal.returns-in_err-number-clause-keeps
returns-in_err-number-clause-keeps c = keeps_then c.args.dag.now c.slice.new.dag c.clipped.new.dag c.in_ok-part.ensures.keeps c.clipped.ensures.keeps

pub returns-clause-keeps : goal.returns-clause-keeps
returns-clause-keeps c = keeps_then c.args.dag.now c.slice.new.dag c.clipped.new.dag c.in_ok-part.ensures.keeps c.in_ok-number.ensures.keeps
