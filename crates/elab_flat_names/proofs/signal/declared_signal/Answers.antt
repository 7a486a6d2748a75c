use Rattle.std.proofs.Common.{◌≡◌, ◌++◌, sym, ap, subst, ◌∙◌}
use Rattle.vlog_tree_runs.specs.Places.{Name}
use Rattle.elab_flat_faults.specs.FlatStands.{Refuses}
use Rattle.elab_flat_scopes.specs.Borrowed.{decl_meant}
use Rattle.elab_flat_instances.specs.Unfolding.{scope_meant}
use Rattle.elab_flat_names.specs.Rows.{StandsAlone}
use Rattle.elab_flat_names.proofs.Signals.{undeclared_signal}
use Rattle.elab_flat_names.proofs.signal.declared_signal.Goals as goal

pub returns-in_ok-name-in-Err-clause-err : goal.returns-in_ok-name-in-Err-clause-err
returns-in_ok-name-in-Err-clause-err c =
    let s = scope_meant c.args.scope.now in
    let d = decl_meant c.args.decl.now in
    let is : c.in_ok-name-in-Err.name ≡ s.prefix ++ d.name =
    c.in_ok-name-in-Err.ensures ∙ (ap (λ (p : Name). p ++ c.bytes-in-Err.result.now) c.bytes.ensures ∙ ap (λ (x : Name). s.prefix ++ x) c.bytes-in-Err.ensures) in
    subst (Refuses (StandsAlone s)) (sym c.signal_fault.ensures) (undeclared_signal s d c.requires c.in-Err.cause c.in-Err.ensures.err c.in_ok-name-in-Err.name is)
