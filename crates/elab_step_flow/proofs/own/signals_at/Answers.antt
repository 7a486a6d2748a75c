use Rattle.elab_flat_drivers.proofs.Marking.{among_at}
use Rattle.elab_step_flow.proofs.Choosing.{copied_next, copied_end}
use Rattle.elab_step_flow.proofs.own.signals_at.Goals as goal

pub copy_at-requires : goal.copy_at-requires
copy_at-requires c = c.requires _ (among_at c.args.places.now c.loop-place.place-index 0 c.loop-place-test.true)

pub loop-place-preserved : goal.loop-place-preserved
loop-place-preserved c =
    copied_next c.args.signals.now c.args.places.now c.loop-place.place-index c.in_ok-copy_at.field-0 c.loop-place.copies.items c.push.new.self.items c.loop-place-test.true c.in_ok-copy_at.ensures c.in_ok-push.ensures.items
    c.loop-place.invariant

pub returns : goal.returns
returns c = copied_end c.args.signals.now c.args.places.now c.loop-place.place-index c.loop-place.copies.items c.loop-place-test.false c.loop-place.invariant
