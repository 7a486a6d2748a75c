use Rattle.std.proofs.Common.{arith, pos, ◌≤ℤ◌, ◌-ℤ◌}
use Rattle.std.proofs.lemmas.Int.{ints}
use Rattle.elab_step_expr.specs.Nodes.{number_at}
use Rattle.elab_step_expr.proofs.Kept.{made_same, number_fits}
use Rattle.elab_step_expr.proofs.Moved.{down_gone, up_gone}
use Rattle.elab_step_expr.proofs.bits.moved.Goals as goal

pub returns-then-top-distance-clause-makes : goal.returns-then-top-distance-clause-makes
returns-then-top-distance-clause-makes c =
    let d = c.args.dag.now in
    let a = c.args.a in
    let le : pos a.width ≤ℤ c.args.distance = omega (arith, ints) in
    made_same c.constant.new.dag c.in_ok-number.number c.args.width _ _ c.in_ok-number.ensures.makes
    (λ e. down_gone c.args.distance (number_at e d a.node) a.width c.args.width (number_fits e d a.node a.width c.length_of-length.ensures.fit c.requires.node) le)

pub returns-then-distance-end-le0-clause-makes : goal.returns-then-distance-end-le0-clause-makes
returns-then-distance-end-le0-clause-makes c =
    let d = c.args.dag.now in
    let a = c.args.a in
    let le : pos c.args.width ≤ℤ (pos 0 -ℤ c.args.distance) = omega (arith, ints) in
    made_same c.constant-then-distance-end-le0.new.dag c.in_ok-number-2.number c.args.width _ _ c.in_ok-number-2.ensures.makes
    (λ e. up_gone c.args.distance (number_at e d a.node) c.args.width c.requires.some le)
