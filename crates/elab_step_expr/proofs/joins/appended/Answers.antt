use Rattle.std.proofs.Common.{◌≡◌, ℕ, ◌+◌, ◌*◌, ◌^◌, ap, sym, ◌∙◌, arith}
use Rattle.std.specs.Prelude.{nat_eq, if◌then◌else◌}
use Rattle.elab_step_expr.specs.Nodes.{number_at}
use Rattle.elab_step_expr.proofs.Kept.{made_same, made_here}
use Rattle.elab_step_expr.proofs.joins.appended.Goals as goal

alone : (m x y : ℕ) → m ≡ 0 → (p : ℕ) → y ≡ (if nat_eq m 0 then 0 else x) * p + y
alone m x y is p =
    let e : y ≡ 0 * p + y = omega arith in
    e ∙ ap (λ z. (if nat_eq z 0 then 0 else x) * p + y) (sym is)

pub returns-then-row-eq0-clause-makes : goal.returns-then-row-eq0-clause-makes
returns-then-row-eq0-clause-makes c =
    let d = c.args.dag.now in
    let low = c.args.low in
    made_same d low.node low.width _ _ (made_here d low.node low.width c.length_of-width.ensures.fit c.requires.low)
    (λ e. alone c.args.row.width (number_at e d c.args.row.node) (number_at e d low.node) c.if-row-eq0.true (2 ^ low.width))
