use Rattle.std.proofs.Common.{map, refl}
use Rattle.std.specs.List.{flat_map}
use Rattle.vlog_tree_runs.specs.Places.{Among}
use Rattle.elab_flat_laws.specs.Flattened.{flat_signals}
use Rattle.elab_flat_instances.specs.Unfolding.{scope_meant}
use Rattle.elab_flat_instances.proofs.Children.{refuses_map}
use Rattle.elab_flat_names.specs.Rows.{StandsAlone}
use Rattle.elab_flat_drivers.proofs.Naming.{meant_at}
use Rattle.elab_flat_clocks.specs.Passing.{StandsAmong}
use Rattle.elab_flat.proofs.Making.{next_parts}
use Rattle.elab_flat.proofs.signal.signals_of.Goals as goal

pub returns-in-Err-clause-err : goal.returns-in-Err-clause-err
returns-in-Err-clause-err c =
    let xs = c.args.scopes.now in
    let x = c.scope-item.result in
    let here : Among (map scope_meant xs) (scope_meant x) = meant_at scope_meant xs xs (map scope_meant xs) c.loop-scope.scope-index x c.loop-scope-test.true c.scope-item.is refl refl in
    refuses_map (StandsAlone (scope_meant x)) (StandsAmong (map scope_meant xs)) (λ fault h. (scope_meant x, here, h)) c.in-Err.fault c.in-Err.ensures.err

pub loop-scope-preserved : goal.loop-scope-preserved
loop-scope-preserved c =
    next_parts (λ xs. flat_map flat_signals (map scope_meant xs)) (λ s. flat_signals (scope_meant s)) (λ s xs. refl) c.args.scopes.now c.loop-scope.scope-index c.scope-item.result c.loop-scope-test.true
    c.scope-item.is c.loop-scope.all _ c.add_signals.new.all c.loop-scope.invariant c.in-Ok.ensures.ok
