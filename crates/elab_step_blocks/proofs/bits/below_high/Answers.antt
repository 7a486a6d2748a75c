use Rattle.std.proofs.Common.{◌≡◌, ◌+◌, ◌*◌, ◌^◌, ◌∙◌, arith}
use Rattle.elab_step_expr.specs.Nodes.{number_at}
use Rattle.elab_step_expr.proofs.Kept.{made_here, made_same, made_number, number_fits, number_kept, keeps_then}
use Rattle.elab_step_blocks.proofs.Writing.{no_high, some_high}
use Rattle.elab_step_blocks.proofs.bits.below_high.Goals as goal

pub returns-then-bits-old-clause-makes : goal.returns-then-bits-old-clause-makes
returns-then-bits-old-clause-makes c =
    let d = c.args.dag.now in
    let o = c.args.old in
    let b = c.args.bits in
    let w : b.width ≡ o.width = omega (arith, c.if-bits-old.true) in
    made_same d b.node o.width _ _ (made_here d b.node o.width c.length_of.ensures.fit (c.requires.bits.0, c.requires.bits.1 ∙ w))
    (λ e. no_high (number_at e d o.node) (number_at e d b.node) b.width o.width (number_fits e d o.node o.width c.length_of.ensures.fit c.requires.old) w)

pub returns-clause-makes : goal.returns-clause-makes
returns-clause-makes c =
    let d = c.args.dag.now in
    let o = c.args.old in
    let b = c.args.bits in
    let mid = c.slice.new.dag in
    made_same c.two.new.dag c.in_ok-number.number o.width _ _ c.in_ok-number.ensures.makes
    (λ e. (λ r. made_number e mid c.in_ok-high.high _ _ c.in_ok-high.ensures.makes r * 2 ^ b.width + number_kept e d mid b.node b.width c.in_ok-high.ensures.keeps c.requires.bits r)
    ∙ some_high (number_at e d o.node) (number_at e d b.node) b.width o.width (number_fits e d o.node o.width c.length_of.ensures.fit c.requires.old) c.requires.within)

pub returns-in_err-number-clause-keeps : goal.returns-in_err-number-clause-keeps
returns-in_err-number-clause-keeps c = keeps_then c.args.dag.now c.slice.new.dag c.two.new.dag c.in_ok-high.ensures.keeps c.two.ensures.keeps

pub returns-clause-keeps : goal.returns-clause-keeps
returns-clause-keeps c = keeps_then c.args.dag.now c.slice.new.dag c.two.new.dag c.in_ok-high.ensures.keeps c.in_ok-number.ensures.keeps
