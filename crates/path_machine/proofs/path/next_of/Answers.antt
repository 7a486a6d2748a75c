use Rattle.std.proofs.Common.{arith, get_or}
use Rattle.set_tree_completeness.proofs.Chain.{window-le}
use Rattle.path_machine.proofs.Walking.{successor_at}
use Rattle.path_machine.proofs.path.next_of.Goals as goal

pub is_assumed-requires-clause-position : goal.is_assumed-requires-clause-position
is_assumed-requires-clause-position c =
    successor_at c.args.set.now c.property_at.result.now c.args.at c.loop-successor.successor-index 0 c.as_slice-successor-items.result.now c.property_at.ensures.structure c.requires.position c.property_at.ensures.same c.as_slice-successor-items.ensures c.loop-successor-test.true

pub is_assumed-requires-clause-window : goal.is_assumed-requires-clause-window
is_assumed-requires-clause-window c =
    let position = successor_at c.args.set.now c.property_at.result.now c.args.at c.loop-successor.successor-index 0 c.as_slice-successor-items.result.now c.property_at.ensures.structure c.requires.position c.property_at.ensures.same c.as_slice-successor-items.ensures c.loop-successor-test.true in
    let le = window-le c.args.set.now (get_or c.as_slice-successor-items.result.now c.loop-successor.successor-index 0) position in
    omega (arith, le, c.requires.fits)
