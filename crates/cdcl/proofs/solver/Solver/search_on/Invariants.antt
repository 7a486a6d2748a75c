use Rattle.std.proofs.Common.{◌≡◌, ◌≤◌, ◌+◌, ◌-◌, ◌*◌, length}
use Rattle.cdcl.specs.Orders.{IsOrder}
use Rattle.cdcl.specs.Turns.{IsSolver}
use Rattle.cdcl.proofs.solver.Solver.search_on.Given as goal

abbrev pub invariant-loop-number : goal.invariant-loop-number
invariant-loop-number l = record {
  is : IsSolver l.cnf l.self;
  order : IsOrder l.order;
  vars : l.order.vars ≡ l.cnf.vars;
  few : length l.self.search.steps.items ≤ l.budget;
}

-- the steps that are left, and then the variables that are
abbrev pub decreases-loop-number : goal.decreases-loop-number
decreases-loop-number l = (l.budget - length l.self.search.steps.items) * (l.cnf.vars + 1) + (l.cnf.vars - length l.self.search.trail.entries)
