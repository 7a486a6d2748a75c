use Rattle.std.proofs.Common.{refl}
use Rattle.elab_step_flow.proofs.Setting.{signal_at_place, among_signals}
use Rattle.elab_step_flow.proofs.words.shape_at.Goals as goal

pub returns : goal.returns
returns c =
    let g = c.index-signals-place.result in
    let here = signal_at_place c.args.signals.now c.args.place g c.requires.within c.index-signals-place.is in
    record { narrow = c.requires.narrow g (among_signals c.args.signals.now c.args.place g here); shape = (g, here, refl, refl) }
