use Rattle.elab_step_flow.proofs.Casing.{meant_among, told_false}
use Rattle.elab_step_flow.proofs.cases.are_constant.Goals as goal

pub returns-then-not-branch : goal.returns-then-not-branch
returns-then-not-branch c =
    λ h. told_false _ _ _ c.if-not-branch.true c.in_ok-is_constant.ensures
    (h c.label-item.result.now (meant_among c.args.labels.now c.loop-label.label-index c.label-item.result c.loop-label-test.true c.label-item.is))
