use Rattle.std.proofs.Common.{◌<◌, length, arith, rules}
use Rattle.elab_step_flow.specs.Sets.{tables}
use Rattle.elab_step_flow.proofs.Listing.{among_at}
use Rattle.elab_step_flow.proofs.Spotting.{put_none, put_next, put_end}
use Rattle.elab_step_flow.proofs.flow.BlockFlow.put_back.Goals as goal

pub put-requires-clause-within : goal.put-requires-clause-within
put-requires-clause-within c =
    let x = c.spot-item.result in
    let within : c.spot-item.result.place < length c.args.self.now.unset.items = c.requires.within x (among_at c.args.spots.now c.loop-spot.spot-index x c.loop-spot-test.true c.spot-item.is) in
    omega (arith, c.loop-spot.invariant.sized.unset)

pub loop-spot-init : goal.loop-spot-init
loop-spot-init c = record { done = put_none (tables c.args.self.now); outside = search rules; sized = c.requires.sized }

pub loop-spot-preserved : goal.loop-spot-preserved
loop-spot-preserved c = record {
  done = put_next c.args.spots.now c.loop-spot.spot-index c.spot-item.result (tables c.args.self.now) (tables c.loop-spot.self) (tables c.put.new.self) c.loop-spot-test.true c.spot-item.is c.loop-spot.invariant.done c.in_ok-put.ensures.put;
  outside = search rules;
  sized = search rules;
}

pub returns-clause-put : goal.returns-clause-put
returns-clause-put c = put_end c.args.spots.now c.loop-spot.spot-index (tables c.args.self.now) (tables c.loop-spot.self) c.loop-spot-test.false c.loop-spot.invariant.done
