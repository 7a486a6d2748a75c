use Rattle.std.proofs.Common.{pos, ◌≤ℤ◌, ◌+ℤ◌, arith}
use Rattle.std.proofs.lemmas.Int.{ints}
use Rattle.elab_step_expr.specs.Nodes.{number_at}
use Rattle.elab_step_expr.proofs.Kept.{made_here, made_same}
use Rattle.elab_step_blocks.proofs.Writing.{past_above, past_below, above_at}
use Rattle.elab_step_blocks.proofs.bits.written.Goals as goal

pub returns-then-size-at-clause-makes : goal.returns-then-size-at-clause-makes
returns-then-size-at-clause-makes c =
    let d = c.args.dag.now in
    let o = c.args.old in
    let b = c.args.bits in
    let le : pos o.width ≤ℤ c.args.at = omega (arith, ints) in
    made_same d o.node o.width _ _ (made_here d o.node o.width c.length_of.ensures.fit c.requires.old)
    (λ e. past_above c.bits_are_written.ensures.others c.args.at o.width b.width (number_at e d b.node) (number_at e d o.node) le)

pub returns-then-at-count-le0-clause-makes : goal.returns-then-at-count-le0-clause-makes
returns-then-at-count-le0-clause-makes c =
    let d = c.args.dag.now in
    let o = c.args.old in
    let b = c.args.bits in
    let le : (c.args.at +ℤ pos b.width) ≤ℤ pos 0 = omega (arith, ints) in
    made_same d o.node o.width _ _ (made_here d o.node o.width c.length_of.ensures.fit c.requires.old)
    (λ e. past_below c.bits_are_written.ensures.below c.args.at o.width b.width (number_at e d b.node) (number_at e d o.node) le)

pub returns-clause-makes : goal.returns-clause-makes
returns-clause-makes c =
    let d = c.args.dag.now in
    let o = c.args.old in
    let b = c.args.bits in
    made_same c.clipped.new.dag c.in_ok-number-2.number o.width _ _ c.in_ok-number-2.ensures.makes
    (λ e. above_at c.args.at o.width _ b.width (number_at e d b.node) (number_at e d o.node) (omega (arith, ints)))
