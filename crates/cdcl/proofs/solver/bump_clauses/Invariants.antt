use Rattle.std.proofs.Common.{◌≡◌}
use Rattle.cdcl.specs.Orders.{IsOrder}
use Rattle.cdcl.proofs.solver.bump_clauses.Given as goal

abbrev pub invariant-loop-number : goal.invariant-loop-number
invariant-loop-number l = record {
  order : IsOrder l.order;
  vars : l.order.vars ≡ l.initial.order.vars;
}
