use Rattle.std.proofs.Common.{◌≡◌, ◌++◌, refl, sym, ap, subst, ◌∙◌}
use Rattle.vlog_tree_runs.specs.Places.{Name}
use Rattle.vlog_tree_runs.specs.Contents.{decls_in}
use Rattle.elab_flat_faults.specs.FlatStands.{Refuses}
use Rattle.elab_flat_scopes.specs.Borrowed.{decl_meant}
use Rattle.elab_flat_instances.specs.Unfolding.{scope_meant}
use Rattle.elab_flat_drivers.proofs.Naming.{meant_at}
use Rattle.elab_flat_widths.specs.Ranges.{StandsAlone}
use Rattle.elab_flat_widths.proofs.Ranges.{decl_stands}
use Rattle.elab_flat_widths.proofs.declared.check_each.Goals as goal

pub returns-in-Err-clause-err : goal.returns-in-Err-clause-err
returns-in-Err-clause-err c =
    let s = scope_meant c.args.scope.now in
    let d = decl_meant c.decl-item.result in
    let is : c.in_ok-name-in-Err.name ≡ s.prefix ++ d.name =
    c.in_ok-name-in-Err.ensures ∙ (ap (λ (p : Name). p ++ c.bytes-in-Err.result.now) c.bytes.ensures ∙ ap (λ (x : Name). s.prefix ++ x) c.bytes-in-Err.ensures) in
    subst (Refuses (StandsAlone s)) (sym c.fault_of.ensures)
    (decl_stands s d (meant_at decl_meant c.args.decls.now c.args.decls.now (decls_in s.module') c.loop-decl.decl-index c.decl-item.result c.loop-decl-test.true c.decl-item.is refl c.requires) c.in-Err.violation c.in_ok-name-in-Err.name is c.in-Err.ensures.err)
