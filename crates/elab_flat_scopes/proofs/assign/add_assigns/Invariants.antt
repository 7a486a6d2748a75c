use Rattle.std.proofs.Common.{◌≡◌, ◌++◌, drop, map}
use Rattle.elab_flat_scopes.specs.Borrowed.{assigned_meant}
use Rattle.elab_flat_scopes.proofs.assign.add_assigns.Given as goal

abbrev pub invariant-loop-assign : goal.invariant-loop-assign
invariant-loop-assign l = map assigned_meant l.all.items ++ drop l.assign-index l.assigns ≡ map assigned_meant l.initial.all.items ++ l.assigns
