use Rattle.std.proofs.Common.{arith}
use Rattle.elab_step_copies.proofs.Forgetting.{number_among}
use Rattle.elab_step.proofs.flags.names_at.Goals as goal

pub name_at-requires : goal.name_at-requires
name_at-requires c = c.requires _ (number_among c.args.places.now c.loop-place.place-index 0 (omega arith))
