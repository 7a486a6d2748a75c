use Rattle.std.proofs.Common.{refl, map}
use Rattle.vlog_tree.specs.declared.item.Assign.{Assign}
use Rattle.vlog_tree_runs.specs.Places.{Among}
use Rattle.vlog_tree_runs.specs.Scopes.{place_of}
use Rattle.elab_flat_scopes.specs.Borrowed.{assigned_meant}
use Rattle.elab_flat_instances.specs.Unfolding.{scope_meant}
use Rattle.elab_flat_drivers.proofs.Naming.{meant_at}
use Rattle.elab_flat_widths.specs.declared.violation.Violation.{Violation}
use Rattle.elab_flat_widths.specs.declared.side.Side.TheVariants as d
use Rattle.elab_flat_widths.specs.Stores.{BreaksStore}
use Rattle.elab_flat_widths.proofs.Takes.{fails_map}
use Rattle.elab_flat_widths.proofs.assignment.check_each.Goals as goal

pub check_assigned-requires-clause-signals : goal.check_assigned-requires-clause-signals
check_assigned-requires-clause-signals c =
    c.requires.signals (assigned_meant c.assigned-item.result) (meant_at assigned_meant c.args.assigns.now c.args.assigns.now _ c.loop-assigned.assigned-index c.assigned-item.result c.loop-assigned-test.true c.assigned-item.is refl refl)

pub returns-in-Err-clause-err : goal.returns-in-Err-clause-err
returns-in-Err-clause-err c =
    let p = place_of (scope_meant c.args.scope.now) in
    let a = assigned_meant c.assigned-item.result in
    fails_map (BreaksStore d.Continuous p a) (λ (w : Violation). (x : Assign) × Among (map assigned_meant c.args.assigns.now) x × BreaksStore d.Continuous p x w)
    (λ w h. (a, meant_at assigned_meant c.args.assigns.now c.args.assigns.now _ c.loop-assigned.assigned-index c.assigned-item.result c.loop-assigned-test.true c.assigned-item.is refl refl, h)) c.in-Err.violation c.in-Err.ensures.err
