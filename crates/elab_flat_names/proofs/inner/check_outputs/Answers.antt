use Rattle.std.proofs.Common.{map, ap, ◌∙◌}
use Rattle.vlog_tree_runs.specs.Scopes.{given_to}
use Rattle.elab_flat_faults.specs.FlatStands.{inside}
use Rattle.elab_flat_scopes.specs.Borrowed.{name_meant, given_meant, inner_meant}
use Rattle.elab_flat_instances.specs.Unfolding.{scope_meant}
use Rattle.elab_flat_names.proofs.Fitting.{output_stands, outputs_fit}
use Rattle.elab_flat_names.proofs.inner.check_outputs.Goals as goal

pub returns-in-Some-clause-err : goal.returns-in-Some-clause-err
returns-in-Some-clause-err c =
    let s = scope_meant c.args.scope.now in
    let i = inner_meant c.args.inner.now in
    let m = c.args.text.now in
    output_stands s i m c.requires.inner (map given_meant c.deref-2.result.now)
    (ap (map given_meant) c.deref-2.ensures.value ∙ (c.in_ok-given.ensures ∙ ap (λ ns. given_to ns i.args) (ap (map name_meant) c.deref.ensures.value ∙ c.in_ok-names.ensures)))
    c.in_ok-ports.ports c.in_ok-ports.ensures c.args.signals.now c.requires.signals c.bad_output.result c.in-Some.name c.bad_output.ensures c.in-Some.is c.in_ok-name.name
    (c.in_ok-name.ensures ∙ ap (inside s i) c.bytes.ensures)

pub returns-clause-ok : goal.returns-clause-ok
returns-clause-ok c =
    let s = scope_meant c.args.scope.now in
    let i = inner_meant c.args.inner.now in
    let m = c.args.text.now in
    outputs_fit s i m (map given_meant c.deref-2.result.now)
    (ap (map given_meant) c.deref-2.ensures.value ∙ (c.in_ok-given.ensures ∙ ap (λ ns. given_to ns i.args) (ap (map name_meant) c.deref.ensures.value ∙ c.in_ok-names.ensures)))
    c.in_ok-ports.ports c.in_ok-ports.ensures c.args.signals.now c.requires.signals c.bad_output.result c.bad_output.ensures c.in_default.not-Some
