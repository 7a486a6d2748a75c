use Rattle.std.proofs.Common.{refl}
use Rattle.vlog_tree.specs.declared.stmt.Stmt.TheVariants as s
use Rattle.elab_step_blocks.specs.Sparing.{SparesLeft}
use Rattle.elab_step_blocks.specs.Targets.{name_at}
use Rattle.elab_step_blocks.proofs.Sparing.{saved_covers, spares_blocking}
use Rattle.elab_step_blocks.proofs.places.before_assign.Goals as goal

pub returns-clause-covers : goal.returns-clause-covers
returns-clause-covers c right k lt away =
    let ls = c.args.leaves.now in
    let left = c.args.left.now in
    spares_blocking ls left right (s.Blocking left right) (name_at ls k) refl
    (saved_covers ls c.new-places.result.items c.add_left.new.places.items c.in_ok-before.before.items (SparesLeft ls left) c.in_ok-add_left.ensures c.in_ok-before.ensures k lt away)
