use Rattle.elab_flat_instances.specs.Unfolding.{scope_meant}
use Rattle.elab_flat.specs.Checked.{IsChecked}
use Rattle.elab_flat.proofs.Making.{HeldTo}
use Rattle.elab_flat.proofs.check.check_scopes.Given as goal

abbrev pub invariant-loop-scope : goal.invariant-loop-scope
invariant-loop-scope l = HeldTo scope_meant (IsChecked l.modules l.top) l.scopes l.scope-index
