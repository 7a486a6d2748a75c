use Rattle.std.proofs.Common.{◌≡◌, ◌++◌, drop, map}
use Rattle.std.specs.List.{flat_map}
use Rattle.elab_flat_scopes.specs.Borrowed.{name_meant, assigned_meant}
use Rattle.elab_flat_names.specs.Exprs.{equation_names}
use Rattle.elab_flat_names.proofs.names.add_targets.Given as goal

abbrev pub invariant-loop-assigned : goal.invariant-loop-assigned
invariant-loop-assigned l = map name_meant l.all.items ++ flat_map equation_names (map assigned_meant (drop l.assigned-index l.assigns)) ≡ map name_meant l.initial.all.items ++ flat_map equation_names (map assigned_meant l.assigns)
