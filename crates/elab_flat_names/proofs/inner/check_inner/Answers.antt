use Rattle.std.proofs.Common.{◌≡◌, Some, sym, ap, ◌∙◌}
use Rattle.std.specs.Option.{option_copied}
use Rattle.vlog_tree_runs.specs.Scopes.{module_at}
use Rattle.elab_flat_scopes.specs.Borrowed.{inner_meant}
use Rattle.elab_flat_instances.specs.Unfolding.{scope_meant, StandsIn}
use Rattle.elab_flat_instances.proofs.Children.{refuses_map}
use Rattle.elab_flat_names.specs.Rows.{StandsInside}
use Rattle.elab_flat_names.proofs.inner.check_inner.Goals as goal

pub returns-in-Err-clause-err : goal.returns-in-Err-clause-err
returns-in-Err-clause-err c =
    let ms = c.args.modules.now in
    let s = scope_meant c.args.scope.now in
    let i = inner_meant c.args.inner.now in
    let m = c.in-Some.text.now in
    let there : module_at ms i.of_module ≡ Some m = ap (module_at ms) (sym c.bytes.ensures) ∙ (sym c.at.ensures ∙ ap option_copied c.in-Some.is) in
    refuses_map (StandsInside s i m) (StandsIn ms s) (λ fault h. h ms there) c.in-Err.fault c.in-Err.ensures.err

pub returns-in-Err-check_named-clause-err : goal.returns-in-Err-check_named-clause-err
returns-in-Err-check_named-clause-err c =
    let ms = c.args.modules.now in
    let s = scope_meant c.args.scope.now in
    let i = inner_meant c.args.inner.now in
    let m = c.in-Some.text.now in
    let there : module_at ms i.of_module ≡ Some m = ap (module_at ms) (sym c.bytes.ensures) ∙ (sym c.at.ensures ∙ ap option_copied c.in-Some.is) in
    refuses_map (StandsInside s i m) (StandsIn ms s) (λ fault h. h ms there) c.in-Err-check_named.fault c.in-Err-check_named.ensures.err

pub returns-in-Err-check_outputs-clause-err : goal.returns-in-Err-check_outputs-clause-err
returns-in-Err-check_outputs-clause-err c =
    let ms = c.args.modules.now in
    let s = scope_meant c.args.scope.now in
    let i = inner_meant c.args.inner.now in
    let m = c.in-Some.text.now in
    let there : module_at ms i.of_module ≡ Some m = ap (module_at ms) (sym c.bytes.ensures) ∙ (sym c.at.ensures ∙ ap option_copied c.in-Some.is) in
    refuses_map (StandsInside s i m) (StandsIn ms s) (λ fault h. h ms there) c.in-Err-check_outputs.fault c.in-Err-check_outputs.ensures.err
