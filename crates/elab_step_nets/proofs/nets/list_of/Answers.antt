use Rattle.std.proofs.Common.{arith, ◌<◌, length, ◌∙◌}
use Rattle.elab_step_copies.proofs.Forgetting.{number_among}
use Rattle.elab_step_nets.proofs.Boards.{list_first}
use Rattle.elab_step_nets.proofs.nets.list_of.Goals as goal

pub list_at-requires : goal.list_at-requires
list_at-requires c = c.requires _ (number_among c.args.nets.now 0 0 (omega arith))

pub returns-in-len1-up : goal.returns-in-len1-up
returns-in-len1-up c = let l : 0 < length c.args.nets.now = omega arith in c.list_at.ensures ∙ list_first c.args.places.now c.args.nets.now l
