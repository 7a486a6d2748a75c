use Rattle.std.proofs.Common.{map, ap, ◌∙◌}
use Rattle.vlog_tree_runs.specs.Scopes.{place_of}
use Rattle.elab_flat_params.specs.Constants.{is_known}
use Rattle.elab_flat_scopes.specs.Borrowed.{assigned_meant}
use Rattle.elab_flat_instances.specs.Unfolding.{scope_meant}
use Rattle.elab_flat_drivers.specs.Parts.{part_meant}
use Rattle.elab_flat_drivers.proofs.Growing.{ok_then}
use Rattle.elab_flat_widths.specs.declared.side.Side.TheVariants as d
use Rattle.elab_flat_widths.specs.Taken.{Fails}
use Rattle.elab_flat_widths.specs.Stores.{IsSoundTo, BreaksTo, IsSoundStore, BreaksStore}
use Rattle.elab_flat_widths.proofs.Takes.{if_err, fails_map}
use Rattle.elab_flat_widths.proofs.Stores.{store_sound, store_breaks}
use Rattle.elab_flat_widths.proofs.assignment.check_assigned.Goals as goal

pub returns-clause-ok : goal.returns-clause-ok
returns-clause-ok c =
    let p = place_of (scope_meant c.args.scope.now) in
    let a = assigned_meant c.args.assigned.now in
    let qs = map part_meant c.deref.result.now in
    ok_then c.check.result (IsSoundTo d.Continuous (is_known c.args.scope.now.params) c.args.rest.now qs a.right) (IsSoundStore d.Continuous p a) c.check.ensures.ok
    (store_sound d.Continuous p a qs c.args.rest.now (ap (map part_meant) c.deref.ensures.value ∙ c.in_ok-parts.ensures) c.requires.rest)

pub returns-clause-err : goal.returns-clause-err
returns-clause-err c =
    let p = place_of (scope_meant c.args.scope.now) in
    let a = assigned_meant c.args.assigned.now in
    let qs = map part_meant c.deref.result.now in
    let breaks = BreaksTo d.Continuous (is_known c.args.scope.now.params) c.args.rest.now qs a.right in
    if_err c.check.result (Fails breaks) (Fails (BreaksStore d.Continuous p a))
    (fails_map breaks (BreaksStore d.Continuous p a)
    (store_breaks d.Continuous p a qs c.args.rest.now (ap (map part_meant) c.deref.ensures.value ∙ c.in_ok-parts.ensures) c.requires.rest c.requires.signals)) c.check.ensures.err
