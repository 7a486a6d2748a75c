use Rattle.std.proofs.Common.{◌≡◌, ◌++◌, ◌≤◌, sym, ap, subst, ◌∙◌}
use Rattle.vlog_tree_runs.specs.declared.flat.Signal.{Signal}
use Rattle.vlog_tree_runs.specs.Places.{Name}
use Rattle.elab_flat_faults.specs.FlatStands.{Refuses}
use Rattle.elab_flat_scopes.specs.Borrowed.{decl_meant}
use Rattle.elab_flat_instances.specs.Unfolding.{scope_meant}
use Rattle.elab_flat_widths.specs.Ranges.{StandsAlone}
use Rattle.elab_flat_widths.proofs.Ranges.{signal_length, signal_stands}
use Rattle.elab_flat_widths.proofs.inner.port_width.Goals as goal

pub returns-in-Ok-clause-most : goal.returns-in-Ok-clause-most
returns-in-Ok-clause-most c =
    subst (λ (g : Signal). g.width ≤ 64) (sym c.in-Ok.ensures.signal) (signal_length c.args.child.now.params (decl_meant c.args.port.now) c.in-Ok.ensures.declared).1

pub returns-in_ok-name-in-Err-clause-err : goal.returns-in_ok-name-in-Err-clause-err
returns-in_ok-name-in-Err-clause-err c =
    let s = scope_meant c.args.child.now in
    let d = decl_meant c.args.port.now in
    let is : c.in_ok-name-in-Err.name ≡ s.prefix ++ d.name =
    c.in_ok-name-in-Err.ensures ∙ (ap (λ (p : Name). p ++ c.bytes-in-Err.result.now) c.bytes.ensures ∙ ap (λ (x : Name). s.prefix ++ x) c.bytes-in-Err.ensures) in
    subst (Refuses (StandsAlone s)) (sym c.fault_of.ensures) (signal_stands s d c.requires c.in-Err.violation c.in_ok-name-in-Err.name is c.in-Err.ensures.err)
