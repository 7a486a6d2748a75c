use Rattle.std.proofs.Common.{◌≡◌}
use Rattle.cdcl.specs.Orders.{IsOrder}
use Rattle.cdcl.proofs.solver.bump_reasons.Given as goal

abbrev pub invariant-loop-lit : goal.invariant-loop-lit
invariant-loop-lit l = record {
  order : IsOrder l.order;
  vars : l.order.vars ≡ l.initial.order.vars;
}
