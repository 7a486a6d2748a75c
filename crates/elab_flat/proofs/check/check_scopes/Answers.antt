use Rattle.std.proofs.Common.{◌≤◌, length, map, refl, arith}
use Rattle.vlog_tree_runs.specs.Places.{Among}
use Rattle.elab_flat_faults.specs.FlatStands.{Stands}
use Rattle.elab_flat_widths.specs.Texts.{StandsAround}
use Rattle.elab_flat_instances.specs.Naming.{prefix_name}
use Rattle.elab_flat_instances.specs.Unfolding.{scope_meant}
use Rattle.elab_flat_instances.proofs.Children.{refuses_map}
use Rattle.elab_flat.specs.Checked.{IsChecked}
use Rattle.elab_flat.proofs.Sound.{is_sound}
use Rattle.elab_flat_drivers.proofs.Naming.{meant_at}
use Rattle.elab_flat.proofs.Making.{held_next, held_all}
use Rattle.elab_flat.proofs.Standing.{around_stands}
use Rattle.elab_flat.proofs.check.check_scopes.Goals as goal

pub check_scope-requires : goal.check_scope-requires
check_scope-requires c =
    let xs = c.args.scopes.now in
    let ss = map scope_meant xs in
    let x = c.scope-item.result in
    let here : Among ss (scope_meant x) = meant_at scope_meant xs xs ss c.loop-scope.scope-index x c.loop-scope-test.true c.scope-item.is refl refl in
    let h = is_sound c.args.modules.now c.args.top.now ss c.requires.unfolded c.requires.first (scope_meant x) here in
    record { inners = c.requires.unfolded.sound (scope_meant x) here; sound = record { given = h.0; outer = h.1; are = h.2.are; sound = h.2.sound } }

pub returns-in-Err-clause-err : goal.returns-in-Err-clause-err
returns-in-Err-clause-err c =
    let ms = c.args.modules.now in
    let top = c.args.top.now in
    let xs = c.args.scopes.now in
    let ss = map scope_meant xs in
    let x = c.scope-item.result in
    let s = scope_meant x in
    let here : Among ss s = meant_at scope_meant xs xs ss c.loop-scope.scope-index x c.loop-scope-test.true c.scope-item.is refl refl in
    refuses_map (StandsAround ms (prefix_name top s.prefix) s) (Stands ms top) (around_stands ms top ss c.requires.unfolded s here) c.in-Err.fault c.in-Err.ensures.err

pub loop-scope-preserved : goal.loop-scope-preserved
loop-scope-preserved c =
    held_next scope_meant (IsChecked c.args.modules.now c.args.top.now) c.args.scopes.now c.loop-scope.scope-index c.scope-item.result c.loop-scope-test.true c.scope-item.is c.in-Ok.ensures.ok
    c.loop-scope.invariant

pub returns-clause-ok : goal.returns-clause-ok
returns-clause-ok c =
    let le : length c.args.scopes.now ≤ c.loop-scope.scope-index = omega arith in
    held_all scope_meant (IsChecked c.args.modules.now c.args.top.now) c.args.scopes.now c.loop-scope.scope-index le c.loop-scope.invariant
