use Rattle.elab_flat_instances.specs.Unfolding.{scope_meant, StandsIn}
use Rattle.elab_flat_instances.proofs.Children.{refuses_map}
use Rattle.elab_flat_names.specs.Rows.{StandsAlone}
use Rattle.elab_flat_names.proofs.check.check_names.Goals as goal

pub returns-in-Err-clause-err : goal.returns-in-Err-clause-err
returns-in-Err-clause-err c =
    let ms = c.args.modules.now in
    let s = scope_meant c.args.scope.now in
    refuses_map (StandsAlone s) (StandsIn ms s) (λ fault h. h ms) c.in-Err.fault c.in-Err.ensures.err

pub returns-in-Err-check_declared-clause-err : goal.returns-in-Err-check_declared-clause-err
returns-in-Err-check_declared-clause-err c =
    let ms = c.args.modules.now in
    let s = scope_meant c.args.scope.now in
    refuses_map (StandsAlone s) (StandsIn ms s) (λ fault h. h ms) c.in-Err-check_declared.fault c.in-Err-check_declared.ensures.err

pub returns-in-Err-check_ports-clause-err : goal.returns-in-Err-check_ports-clause-err
returns-in-Err-check_ports-clause-err c =
    let ms = c.args.modules.now in
    let s = scope_meant c.args.scope.now in
    refuses_map (StandsAlone s) (StandsIn ms s) (λ fault h. h ms) c.in-Err-check_ports.fault c.in-Err-check_ports.ensures.err
