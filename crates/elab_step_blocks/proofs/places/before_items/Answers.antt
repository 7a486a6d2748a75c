use Rattle.elab_step_blocks.specs.Sparing.{ItemsSpare}
use Rattle.elab_step_blocks.proofs.Sparing.{saved_covers}
use Rattle.elab_step_blocks.proofs.places.before_items.Goals as goal

pub returns-clause-covers : goal.returns-clause-covers
returns-clause-covers c =
    let ls = c.args.leaves.now in
    saved_covers ls c.new-places.result.items c.add_items.new.places.items c.in_ok-before.before.items (ItemsSpare ls c.args.items.now) c.in_ok-add_items.ensures c.in_ok-before.ensures
