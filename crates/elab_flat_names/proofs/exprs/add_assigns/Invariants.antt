use Rattle.std.proofs.Common.{◌≡◌, ◌++◌, drop, map}
use Rattle.std.specs.List.{flat_map}
use Rattle.elab_flat_faults.specs.Texts.{assign_exprs}
use Rattle.elab_flat_scopes.specs.Borrowed.{assigned_meant}
use Rattle.elab_flat_names.specs.Exprs.{expr_meant}
use Rattle.elab_flat_names.proofs.exprs.add_assigns.Given as goal

abbrev pub invariant-loop-assigned : goal.invariant-loop-assigned
invariant-loop-assigned l = map expr_meant l.all.items ++ flat_map assign_exprs (map assigned_meant (drop l.assigned-index l.assigns)) ≡ map expr_meant l.initial.all.items ++ flat_map assign_exprs (map assigned_meant l.assigns)
