use Rattle.std.proofs.Common.{sym, ap, ◌∙◌}
use Rattle.vlog_tree_runs.specs.declared.flat.Signal.{Signal}
use Rattle.vlog_tree_runs.specs.Contents.{is_among}
use Rattle.elab_step_flow.proofs.Finding.{at_same, signal_named}
use Rattle.elab_step_flow.proofs.listed.is_listed.Goals as goal

pub returns : goal.returns
returns c = λ x a.
    let gs = c.args.signals.now in
    let g = c.index-signals-place.result in
    let here = signal_named gs c.args.place g c.requires c.index-signals-place.is in
    c.has.ensures ∙ ap (is_among c.args.listed.now) ((c.bytes.ensures ∙ ap (λ (z : Signal). z.name) (sym c.index-signals-place.is)) ∙ sym (at_same gs c.args.place x g.name a here))
