use Rattle.std.proofs.Common.{◌⊎◌, drop, map}
use Rattle.vlog_tree.specs.declared.item.Assign.{Assign}
use Rattle.vlog_tree_runs.specs.Places.{Among}
use Rattle.vlog_tree_runs.specs.Scopes.{place_of}
use Rattle.elab_flat_scopes.specs.Borrowed.{assigned_meant}
use Rattle.elab_flat_instances.specs.Unfolding.{scope_meant}
use Rattle.elab_flat_widths.specs.declared.side.Side.TheVariants as d
use Rattle.elab_flat_widths.specs.Stores.{IsSoundStore}
use Rattle.elab_flat_widths.proofs.assignment.check_each.Given as goal

abbrev pub invariant-loop-assigned : goal.invariant-loop-assigned
invariant-loop-assigned l =
    (a : Assign) → Among (map assigned_meant l.assigns) a → (IsSoundStore d.Continuous (place_of (scope_meant l.scope)) a) ⊎ Among (map assigned_meant (drop l.assigned-index l.assigns)) a
