use Rattle.std.proofs.Common.{sym, ◌∙◌}
use Rattle.elab_step_flow.proofs.Listing.{among_at}
use Rattle.elab_step_flow.proofs.Casing.{default_passed}
use Rattle.elab_step_flow.proofs.cases.has_default.Goals as goal

pub returns-then-is_default : goal.returns-then-is_default
returns-then-is_default c = (c.item-item.result, among_at c.args.items.now c.loop-item.item-index c.item-item.result c.loop-item-test.true c.item-item.is, sym c.is_default.ensures ∙ c.if-is_default.true)

pub loop-item-preserved : goal.loop-item-preserved
loop-item-preserved c =
    λ h. default_passed c.args.items.now c.loop-item.item-index c.item-item.result c.loop-item-test.true c.item-item.is (sym c.is_default.ensures ∙ c.if-is_default.false) (c.loop-item.invariant h)
