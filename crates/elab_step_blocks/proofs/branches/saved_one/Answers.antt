use Rattle.elab_step_blocks.proofs.Saving.{node_get}
use Rattle.elab_step_blocks.proofs.branches.saved_one.Goals as goal

pub returns : goal.returns
returns c = λ r. record { place = c.args.place; node = node_get c.args.leaves.now c.args.place c.leaf.result.now c.requires c.leaf.ensures r }
