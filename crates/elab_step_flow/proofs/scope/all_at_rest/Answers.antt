use Rattle.elab_step_flow.proofs.Listing.{among_at}
use Rattle.elab_step_flow.proofs.Resting.{rest_fits, rest_next}
use Rattle.elab_step_flow.proofs.scope.all_at_rest.Goals as goal

pub push-requires : goal.push-requires
push-requires c =
    rest_fits c.in_ok-entry_at_rest.field-0 c.signal-item.result c.in_ok-entry_at_rest.ensures
    (c.requires.wide c.signal-item.result (among_at c.args.signals.now c.loop-signal.signal-index c.signal-item.result c.loop-signal-test.true c.signal-item.is))

pub loop-signal-preserved : goal.loop-signal-preserved
loop-signal-preserved c =
    let g = c.signal-item.result in
    rest_next c.args.signals.now c.loop-signal.signal-index g c.in_ok-entry_at_rest.field-0 c.loop-signal.all c.push.new.self c.loop-signal-test.true c.signal-item.is
    (c.requires.vectors g (among_at c.args.signals.now c.loop-signal.signal-index g c.loop-signal-test.true c.signal-item.is)) c.in_ok-entry_at_rest.ensures c.in_ok-push.ensures.ok c.loop-signal.invariant
