use Rattle.elab_flat.proofs.Inputs.{inputs_are}
use Rattle.elab_flat.proofs.law.ports_are_inputs.Goals as goal

pub returns : goal.returns
returns c = λ ms top m f there fit ports x. inputs_are ms top m fit there f ports x
