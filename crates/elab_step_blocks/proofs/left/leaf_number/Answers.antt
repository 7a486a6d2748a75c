use Rattle.std.proofs.Common.{◌≡◌, List, Some, None, ℕ, sym, ap, ◌∙◌}
use Rattle.vlog_tree.specs.Valuation.{place_at}
use Rattle.elab_step_expr.specs.Leaves.{declared}
use Rattle.elab_step_blocks.proofs.Sides.{leaf_there, leaf_none}
use Rattle.elab_step_blocks.proofs.left.leaf_number.Goals as goal

pub unreachable-requires : goal.unreachable-requires
unreachable-requires c =
    let at = ap (λ (x : List ℕ). place_at (declared c.args.leaves.now) x 0) (sym c.bytes.ensures) in
    let none : place_at (declared c.args.leaves.now) c.args.name.now 0 ≡ None = at ∙ (sym c.place.ensures ∙ c.in-None.is) in
    leaf_none c.args.leaves.now c.args.name.now c.requires none

pub returns : goal.returns
returns c =
    let at = ap (λ (x : List ℕ). place_at (declared c.args.leaves.now) x 0) (sym c.bytes.ensures) in
    let there : place_at (declared c.args.leaves.now) c.args.name.now 0 ≡ Some c.in-Some.number = at ∙ (sym c.place.ensures ∙ c.in-Some.is) in
    leaf_there c.args.leaves.now c.args.name.now c.in-Some.number there
