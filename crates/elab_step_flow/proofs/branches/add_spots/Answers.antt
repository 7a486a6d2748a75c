use Rattle.elab_flat_drivers.proofs.Marking.{among_at}
use Rattle.elab_step_flow.specs.Sets.{tables}
use Rattle.elab_step_flow.proofs.Spotting.{spots_none, spots_next, spots_end}
use Rattle.elab_step_flow.proofs.branches.add_spots.Goals as goal

pub spot_at-requires-clause-within : goal.spot_at-requires-clause-within
spot_at-requires-clause-within c = c.requires.within _ (among_at c.args.places.now c.loop-place.place-index 0 c.loop-place-test.true)

pub loop-place-init : goal.loop-place-init
loop-place-init c = spots_none (tables c.args.flow.now) c.args.all.now.items

pub loop-place-preserved : goal.loop-place-preserved
loop-place-preserved c =
    spots_next (tables c.args.flow.now) c.args.places.now c.loop-place.place-index c.args.all.now.items c.loop-place.all.items c.push.new.self.items _ c.loop-place-test.true c.loop-place.invariant c.in_ok-push.ensures.items c.in_ok-spot_at.ensures.place c.in_ok-spot_at.ensures.spot

pub returns : goal.returns
returns c = spots_end (tables c.args.flow.now) c.args.places.now c.loop-place.place-index c.args.all.now.items c.loop-place.all.items c.loop-place-test.false c.loop-place.invariant
