use Rattle.std.proofs.Common.{◌-◌, ◌+ℤ◌, ◌-ℤ◌, pos, arith}
use Rattle.std.proofs.lemmas.Int.{ints}
use Rattle.elab_step_expr.specs.Nodes.{number_at}
use Rattle.elab_step_expr.proofs.Kept.{made_here, number_fits}
use Rattle.elab_step_expr.proofs.Positions.{coded, uncoded}
use Rattle.elab_step_expr.proofs.indexed.with_position.Goals as goal

pub returns-in_ok-number-in-Some-clause-makes : goal.returns-in_ok-number-in-Some-clause-makes
returns-in_ok-number-in-Some-clause-makes c =
    let d = c.args.dag.now in
    let x = c.args.index.wire in
    let some = c.length_of.ensures.long.0 in
    coded c.with_code.new.dag c.in_ok-number-in-Some.number c.args.other.width c.args.index.signed x.width (λ e. number_at e d x.node) (λ e. number_at e d c.args.a.node) (λ e. number_at e d c.args.other.node)
    (λ e. number_fits e d x.node x.width c.length_of.ensures.fit c.requires.index) c.in-Some.code _ _ (pos c.args.step -ℤ pos (c.args.other.width - 1)) (c.args.from +ℤ (pos c.args.step -ℤ pos (c.args.other.width - 1)))
    c.in_ok-number-in-Some.ensures.makes c.in-Some.ensures.some.1 (omega (arith, ints)) (omega (arith, ints))

pub returns-in-None-clause-makes : goal.returns-in-None-clause-makes
returns-in-None-clause-makes c =
    let d = c.args.dag.now in
    let x = c.args.index.wire in
    let f = c.length_of.ensures.fit in
    uncoded d c.args.other.node c.args.other.width c.args.index.signed x.width (λ e. number_at e d x.node) (λ e. number_at e d c.args.a.node) (λ e. number_at e d c.args.other.node)
    (λ e. number_fits e d x.node x.width f c.requires.index) _ (pos c.args.step -ℤ pos (c.args.other.width - 1)) (c.args.from +ℤ (pos c.args.step -ℤ pos (c.args.other.width - 1)))
    (made_here d c.args.other.node c.args.other.width f c.requires.other) c.in-None.ensures.none (omega (arith, ints))
