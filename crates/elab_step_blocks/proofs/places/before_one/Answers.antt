use Rattle.elab_step_blocks.specs.Sparing.{Spares}
use Rattle.elab_step_blocks.proofs.Sparing.{saved_covers}
use Rattle.elab_step_blocks.proofs.places.before_one.Goals as goal

pub returns-clause-covers : goal.returns-clause-covers
returns-clause-covers c =
    let ls = c.args.leaves.now in
    saved_covers ls c.new-places.result.items c.add_stmt.new.places.items c.in_ok-before.before.items (Spares ls c.args.stmt.now) c.in_ok-add_stmt.ensures c.in_ok-before.ensures
