use Rattle.std.proofs.Common.{get_or, sym, ◌∙◌}
use Rattle.elab_flat_drivers.proofs.Marking.{among_at}
use Rattle.elab_step_flow.proofs.Finding.{absent_next}
use Rattle.elab_step_flow.proofs.Showing.{named_at}
use Rattle.elab_step_flow.proofs.listed.absent.Goals as goal

pub is_listed-requires : goal.is_listed-requires
is_listed-requires c = c.requires _ (among_at c.args.places.now c.loop-place.place-index 0 c.loop-place-test.true)

pub returns-then-not-is_listed-clause-some : goal.returns-then-not-is_listed-clause-some
returns-then-not-is_listed-clause-some c =
    let here = among_at c.args.places.now c.loop-place.place-index 0 c.loop-place-test.true in
    let x = named_at c.args.signals.now (get_or c.args.places.now c.loop-place.place-index 0) (c.requires _ here) in
    (x.0, x.1, (here, sym (c.is_listed.ensures x.0 x.1) ∙ c.if-not-is_listed.true))

pub loop-place-preserved : goal.loop-place-preserved
loop-place-preserved c =
    absent_next c.args.signals.now c.args.places.now c.args.listed.now c.loop-place.place-index c.is_listed.result c.loop-place-test.true c.is_listed.ensures c.if-not-is_listed.false c.loop-place.invariant
