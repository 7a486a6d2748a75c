use Rattle.elab_step_blocks.proofs.Sparing.{gathers_name}
use Rattle.elab_step_blocks.proofs.places.add_name.Goals as goal

pub returns : goal.returns
returns c = gathers_name c.args.leaves.now c.args.name.now c.leaf_number.result c.args.places.now.items c.push.new.self.items c.requires.apart c.leaf_number.ensures c.in_ok-push.ensures.items
