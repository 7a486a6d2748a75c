use Rattle.elab_step_flow.proofs.Casing.{ConstantFrom}
use Rattle.elab_step_flow.proofs.cases.are_constant.Given as goal

abbrev pub invariant-loop-label : goal.invariant-loop-label
invariant-loop-label l = ConstantFrom l.labels l.label-index
