use Rattle.std.proofs.Common.{drop}
use Rattle.std.specs.Prelude.{nat_eq}
use Rattle.std.specs.HashSet.{contains}
use Rattle.elab_step_flow.proofs.Casing.{ValuesWith}
use Rattle.elab_step_flow.proofs.cases.values_of.Given as goal

abbrev pub invariant-loop-label : goal.invariant-loop-label
invariant-loop-label l = ValuesWith l.valuation l.length l.signed l.labels (drop l.label-index l.labels) (λ x. contains nat_eq l.values x)
