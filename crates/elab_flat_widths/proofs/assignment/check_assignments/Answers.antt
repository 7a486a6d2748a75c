use Rattle.std.proofs.Common.{map, ap, subst, ◌∙◌}
use Rattle.std.specs.Prelude.{IfErr, List}
use Rattle.vlog_tree.specs.declared.item.Assign.{Assign}
use Rattle.vlog_tree_runs.specs.Places.{Among}
use Rattle.vlog_tree_runs.specs.Scopes.{place_of}
use Rattle.elab_flat_scopes.specs.Borrowed.{assigned_meant}
use Rattle.elab_flat_instances.specs.Unfolding.{scope_meant}
use Rattle.elab_flat_widths.specs.declared.violation.Violation.{Violation}
use Rattle.elab_flat_widths.specs.declared.side.Side.TheVariants as d
use Rattle.elab_flat_widths.specs.Taken.{Fails}
use Rattle.elab_flat_widths.specs.Stores.{BreaksStore}
use Rattle.elab_flat_widths.proofs.assignment.check_assignments.Goals as goal

pub returns-clause-err : goal.returns-clause-err
returns-clause-err c =
    let p = place_of (scope_meant c.args.scope.now) in
    subst (λ (xs : List Assign). IfErr c.check_each.result (Fails (λ (w : Violation). (x : Assign) × Among xs x × BreaksStore d.Continuous p x w))) (ap (map assigned_meant) c.deref.ensures.value ∙ c.in_ok-assigns.ensures) c.check_each.ensures.err
