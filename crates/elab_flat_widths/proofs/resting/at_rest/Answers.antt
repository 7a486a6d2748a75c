use Rattle.vlog_tree_runs.specs.Contents.{signals_in}
use Rattle.elab_flat_scopes.specs.Borrowed.{decl_meant}
use Rattle.elab_flat_instances.specs.Unfolding.{scope_meant}
use Rattle.elab_flat_drivers.proofs.Naming.{meant_at}
use Rattle.elab_flat_widths.proofs.Ranges.{only_memory, signal_declared}
use Rattle.std.proofs.Common.{◌++◌, map, ap, ◌∙◌}
use Rattle.std.specs.List.{flat_map}
use Rattle.vlog_tree_runs.specs.Scopes.{signal_of}
use Rattle.elab_flat_widths.specs.Ranges.{resting}
use Rattle.elab_flat_widths.proofs.Zeros.{at_rest_is, signals_done}
use Rattle.elab_flat_widths.proofs.resting.at_rest.Goals as goal

pub returns-in-Err-clause-err : goal.returns-in-Err-clause-err
returns-in-Err-clause-err c =
    let s = scope_meant c.args.scope.now in
    let d = decl_meant c.decl-item.result in
    only_memory s.params d
    (signal_declared s c.requires d
    (meant_at decl_meant c.deref-decl-items.result.now c.in_ok-signals.signals.items (signals_in s.module') c.loop-decl.decl-index c.decl-item.result c.loop-decl-test.true c.decl-item.is c.deref-decl-items.ensures.value c.in_ok-signals.ensures))
    c.in-Err.violation c.in-Err.ensures.err

pub returns-clause-ok : goal.returns-clause-ok
returns-clause-ok c =
    let s = scope_meant c.args.scope.now in
    signals_done s.params c.deref-decl-items.result.now c.loop-decl.decl-index c.loop-decl-test.false c.loop-decl.rest _ c.loop-decl.invariant
    ∙ (ap (λ ds. s.params ++ flat_map resting (map (signal_of s.params) ds)) (ap (map decl_meant) c.deref-decl-items.ensures.value ∙ c.in_ok-signals.ensures) ∙ at_rest_is s)
