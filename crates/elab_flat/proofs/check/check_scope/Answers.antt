use Rattle.std.proofs.Common.{◌≡◌, inl, ap, subst, ◌∙◌}
use Rattle.vlog_tree_runs.specs.Places.{Name}
use Rattle.elab_flat_faults.specs.declared.flattening.FlatFault.TheVariants as f
use Rattle.elab_flat_widths.specs.Texts.{StandsAround}
use Rattle.elab_flat_instances.specs.Naming.{prefix_name}
use Rattle.elab_flat_instances.specs.Unfolding.{scope_meant, StandsIn}
use Rattle.elab_flat_instances.proofs.Children.{refuses_map}
use Rattle.elab_flat.specs.Checked.{HasFitLengths}
use Rattle.elab_flat.proofs.check.check_scope.Goals as goal

pub returns-in-Err-clause-err : goal.returns-in-Err-clause-err
returns-in-Err-clause-err c =
    let ms = c.args.modules.now in
    let s = scope_meant c.args.scope.now in
    let path = prefix_name c.args.top.now s.prefix in
    refuses_map (StandsIn ms s) (StandsAround ms path s) (λ fault h. inl (h path)) c.in-Err.fault c.in-Err.ensures.err

pub check_texts-requires-clause-names : goal.check_texts-requires-clause-names
check_texts-requires-clause-names c = λ somewhere n h. c.in-Ok.ensures.none (f.Unknown n) tt somewhere h

pub returns-in-Ok-check_texts-clause-ok : goal.returns-in-Ok-check_texts-clause-ok
returns-in-Ok-check_texts-clause-ok c =
    let ms = c.args.modules.now in
    let s = scope_meant c.args.scope.now in
    let top = c.args.top.now in
    let named : c.bytes-2.result.now ≡ prefix_name top s.prefix = c.bytes-2.ensures ∙ (c.in_ok-name.ensures ∙ ap (prefix_name top) c.bytes.ensures) in
    record { names = c.in-Ok.ensures.none; lengths = subst (λ (p : Name). HasFitLengths ms p s) named c.in-Ok-check_texts.ensures.none }
