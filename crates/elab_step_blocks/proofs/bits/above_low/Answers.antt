use Rattle.std.proofs.Common.{◌≡◌, ◌+◌, ◌∙◌, arith}
use Rattle.elab_step_expr.specs.Nodes.{number_at}
use Rattle.elab_step_expr.proofs.Kept.{made_here, made_same, keeps_same, keeps_then}
use Rattle.elab_step_blocks.proofs.Writing.{no_low}
use Rattle.elab_step_blocks.proofs.bits.above_low.Goals as goal

pub returns-then-lo-eq0-clause-makes : goal.returns-then-lo-eq0-clause-makes
returns-then-lo-eq0-clause-makes c =
    let d = c.args.dag.now in
    let z : c.args.lo ≡ 0 = omega (arith, c.if-lo-eq0.true) in
    let w : c.args.bits.width ≡ c.args.bits.width + c.args.lo = omega (arith, z) in
    made_same d c.args.bits.node (c.args.bits.width + c.args.lo) _ _ (made_here d c.args.bits.node (c.args.bits.width + c.args.lo) c.length_of.ensures.fit (c.requires.bits.0, c.requires.bits.1 ∙ w))
    (λ e. no_low (number_at e d c.args.old.node) (number_at e d c.args.bits.node) c.args.lo z)

pub returns-then-lo-eq0-clause-keeps : goal.returns-then-lo-eq0-clause-keeps
returns-then-lo-eq0-clause-keeps c = keeps_same c.args.dag.now

pub returns-in_err-number-clause-keeps : goal.returns-in_err-number-clause-keeps
returns-in_err-number-clause-keeps c = keeps_then c.args.dag.now c.slice.new.dag c.two.new.dag c.in_ok-low.ensures.keeps c.two.ensures.keeps

pub returns-clause-keeps : goal.returns-clause-keeps
returns-clause-keeps c = keeps_then c.args.dag.now c.slice.new.dag c.two.new.dag c.in_ok-low.ensures.keeps c.in_ok-number.ensures.keeps
