use Rattle.std.proofs.Common.{drop}
use Rattle.elab_step_flow.specs.Cases.{AnyDefault}
use Rattle.elab_step_flow.proofs.cases.has_default.Given as goal

abbrev pub invariant-loop-item : goal.invariant-loop-item
invariant-loop-item l = AnyDefault l.items → AnyDefault (drop l.item-index l.items)
