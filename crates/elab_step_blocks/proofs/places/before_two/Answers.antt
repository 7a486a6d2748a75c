use Rattle.elab_step_blocks.specs.Sparing.{Spares}
use Rattle.elab_step_blocks.proofs.Sparing.{saved_covers, gathers_then}
use Rattle.elab_step_blocks.proofs.places.before_two.Goals as goal

pub returns-clause-one : goal.returns-clause-one
returns-clause-one c =
    let ls = c.args.leaves.now in
    let one = Spares ls c.args.one.now in
    let none = c.new-places.result.items in
    let all = c.add_stmt-2.new.places.items in
    saved_covers ls none all c.in_ok-before.before.items one
    (gathers_then ls none c.add_stmt.new.places.items all one (Spares ls c.args.other.now) one (λ x p q. p) c.in_ok-add_stmt.ensures c.in_ok-add_stmt-2.ensures) c.in_ok-before.ensures

pub returns-clause-other : goal.returns-clause-other
returns-clause-other c =
    let ls = c.args.leaves.now in
    saved_covers ls c.add_stmt.new.places.items c.add_stmt-2.new.places.items c.in_ok-before.before.items (Spares ls c.args.other.now) c.in_ok-add_stmt-2.ensures c.in_ok-before.ensures
