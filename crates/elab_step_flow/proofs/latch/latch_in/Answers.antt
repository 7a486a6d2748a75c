use Rattle.elab_step_flow.specs.Asked.{OfSignal, BlockMisses}
use Rattle.elab_step_flow.proofs.Finding.{AnyBlock, some_is, none_is, place_within, found_there, none_there, misses_bit, bit_missed}
use Rattle.elab_step_flow.proofs.latch.latch_in.Goals as goal

pub name_at-requires : goal.name_at-requires
name_at-requires c =
    let gs = c.args.scope.now in
    place_within c.args.flat.now gs c.as_slice.result.now c.requires.scope c.as_slice.ensures (AnyBlock gs (BlockMisses gs) c.as_slice.result.now) c.list.result.now c.in-Some.place c.list.ensures
    (some_is _ c.in-Some.place (λ i. OfSignal gs i (AnyBlock gs (BlockMisses gs) c.as_slice.result.now)) c.in-Some.is c.in_ok-place.ensures.some)

pub returns-in_ok-name-in-Some-clause-some : goal.returns-in_ok-name-in-Some-clause-some
returns-in_ok-name-in-Some-clause-some c =
    let gs = c.args.scope.now in
    misses_bit c.args.flat.now c.in_ok-name-in-Some.name
    (found_there c.args.flat.now gs c.as_slice.result.now c.requires.scope c.as_slice.ensures BlockMisses c.list.result.now c.in-Some.place c.in_ok-name-in-Some.name c.list.ensures
    (some_is _ c.in-Some.place (λ i. OfSignal gs i (AnyBlock gs (BlockMisses gs) c.as_slice.result.now)) c.in-Some.is c.in_ok-place.ensures.some) c.in_ok-name-in-Some.ensures)

pub returns-in-None-clause-none : goal.returns-in-None-clause-none
returns-in-None-clause-none c = λ x h.
    let gs = c.args.scope.now in
    none_there c.args.flat.now gs c.as_slice.result.now c.requires.scope c.as_slice.ensures BlockMisses (none_is _ _ c.in-None.is c.in_ok-place.ensures.none) x (bit_missed c.args.flat.now x h)
