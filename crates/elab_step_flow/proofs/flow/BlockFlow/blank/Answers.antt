use Rattle.std.proofs.Common.{◌<◌, length, get_or, arith, rules}
use Rattle.elab_flat_drivers.proofs.Marking.{among_at}
use Rattle.elab_step_flow.specs.Sets.{tables}
use Rattle.elab_step_flow.proofs.Spotting.{blank_none, blank_next, blank_end, blank_one}
use Rattle.elab_step_flow.proofs.flow.BlockFlow.blank.Goals as goal

pub loop-place-init : goal.loop-place-init
loop-place-init c = record { done = blank_none (tables c.args.self.now); outside = search rules; sized = c.requires.sized }

pub index_mut-requires : goal.index_mut-requires
index_mut-requires c =
    let within : get_or c.args.places.now c.loop-place.place-index 0 < length c.args.self.now.unset.items = c.requires.within _ (among_at c.args.places.now c.loop-place.place-index 0 c.loop-place-test.true) in
    omega (arith, c.loop-place.invariant.sized.unset)

pub index_mut-requires-in-loop-place : goal.index_mut-requires-in-loop-place
index_mut-requires-in-loop-place c =
    let within : get_or c.args.places.now c.loop-place.place-index 0 < length c.args.self.now.unset.items = c.requires.within _ (among_at c.args.places.now c.loop-place.place-index 0 c.loop-place-test.true) in
    omega (arith, c.loop-place.invariant.sized.through)

pub loop-place-preserved : goal.loop-place-preserved
loop-place-preserved c =
    let place = get_or c.args.places.now c.loop-place.place-index 0 in
    let now = c.loop-place.self in
    let within : get_or c.args.places.now c.loop-place.place-index 0 < length c.args.self.now.unset.items = c.requires.within _ (among_at c.args.places.now c.loop-place.place-index 0 c.loop-place-test.true) in
    let words : get_or c.args.places.now c.loop-place.place-index 0 < length c.loop-place.self.unset.items = omega (arith, c.loop-place.invariant.sized.unset) in
    let lines : get_or c.args.places.now c.loop-place.place-index 0 < length c.loop-place.self.through.items = omega (arith, c.loop-place.invariant.sized.through) in
    record {
      done = blank_next c.args.places.now c.loop-place.place-index (tables c.args.self.now) (tables now) _ c.loop-place-test.true c.loop-place.invariant.done (blank_one place now.unset.items now.through.items c.new.result now.outside.items words lines c.new.ensures.items);
      outside = search rules;
      sized = search rules;
    }

pub returns-clause-blank : goal.returns-clause-blank
returns-clause-blank c = blank_end c.args.places.now c.loop-place.place-index (tables c.args.self.now) (tables c.loop-place.self) c.loop-place-test.false c.loop-place.invariant.done
