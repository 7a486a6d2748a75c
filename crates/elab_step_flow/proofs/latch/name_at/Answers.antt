use Rattle.std.proofs.Common.{sym, ap, ◌∙◌, subst}
use Rattle.vlog_tree_runs.specs.declared.flat.Signal.{Signal}
use Rattle.elab_step_flow.specs.Shows.{IsAt}
use Rattle.elab_step_flow.proofs.Finding.{signal_named}
use Rattle.elab_step_flow.proofs.latch.name_at.Goals as goal

pub returns : goal.returns
returns c =
    let is = c.index-signals-place.is in
    subst (λ x. IsAt c.args.signals.now c.args.place x) (sym (c.in_ok-name.ensures ∙ (c.bytes.ensures ∙ ap (λ (z : Signal). z.name) (sym is))))
    (signal_named c.args.signals.now c.args.place c.index-signals-place.result c.requires is)
