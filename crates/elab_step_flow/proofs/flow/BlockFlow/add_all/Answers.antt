use Rattle.std.proofs.Common.{◌<◌, length, arith, rules}
use Rattle.elab_step_flow.specs.Sets.{tables}
use Rattle.elab_step_flow.proofs.Listing.{among_at}
use Rattle.elab_step_flow.proofs.Spotting.{add_none, add_next, add_end}
use Rattle.elab_step_flow.proofs.flow.BlockFlow.add_all.Goals as goal

pub add_spot-requires-clause-within : goal.add_spot-requires-clause-within
add_spot-requires-clause-within c =
    let x = c.spot-item.result in
    let within : c.spot-item.result.place < length c.args.self.now.unset.items = c.requires.within x (among_at c.args.spots.now c.loop-spot.spot-index x c.loop-spot-test.true c.spot-item.is) in
    omega (arith, c.loop-spot.invariant.sized.unset)

pub loop-spot-init : goal.loop-spot-init
loop-spot-init c = record { done = add_none (tables c.args.self.now); outside = search rules; sized = c.requires.sized }

pub loop-spot-preserved : goal.loop-spot-preserved
loop-spot-preserved c = record {
  done = add_next c.args.spots.now c.loop-spot.spot-index c.spot-item.result (tables c.args.self.now) (tables c.loop-spot.self) (tables c.add_spot.new.self) c.loop-spot-test.true c.spot-item.is c.loop-spot.invariant.done c.in_ok-add_spot.ensures.added;
  outside = search rules;
  sized = search rules;
}

pub returns-clause-added : goal.returns-clause-added
returns-clause-added c = add_end c.args.spots.now c.loop-spot.spot-index (tables c.args.self.now) (tables c.loop-spot.self) c.loop-spot-test.false c.loop-spot.invariant.done
