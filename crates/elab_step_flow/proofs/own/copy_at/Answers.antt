use Rattle.std.proofs.Common.{◌∙◌}
use Rattle.elab_step_flow.proofs.Choosing.{copied}
use Rattle.elab_step_flow.proofs.Setting.{signal_at_place}
use Rattle.elab_step_flow.proofs.own.copy_at.Goals as goal

pub returns : goal.returns
returns c =
    let g = c.index-signals-place.result in
    copied c.args.signals.now c.args.place g c.in_ok-copy.field-0 (signal_at_place c.args.signals.now c.args.place g c.requires c.index-signals-place.is) (c.in_ok-copy.ensures ∙ c.bytes.ensures)
