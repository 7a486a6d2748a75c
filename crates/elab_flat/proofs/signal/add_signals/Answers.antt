use Rattle.vlog_tree_runs.specs.Contents.{signals_in}
use Rattle.elab_flat_scopes.specs.Borrowed.{decl_meant}
use Rattle.elab_flat_drivers.proofs.Naming.{meant_at}
use Rattle.elab_flat_names.proofs.Words.{signals_as}
use Rattle.elab_flat.proofs.signal.add_signals.Goals as goal

pub declared_signal-requires : goal.declared_signal-requires
declared_signal-requires c =
    let m = c.args.scope.now.text.now in
    let d = c.decl-item.result in
    signals_as m (decl_meant d)
    (meant_at decl_meant c.deref-decl-items.result.now c.in_ok-decls.decls.items (signals_in m) c.loop-decl.decl-index d c.loop-decl-test.true c.decl-item.is c.deref-decl-items.ensures.value c.in_ok-decls.ensures)
